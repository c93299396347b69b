use Rattle.std.proofs.Common.{rules, codes}
use Rattle.ring_words.proofs.Told.{check_told, flag_told, load_told, one_told, play_apart, range_told, seed_told, size_told, some_told, step_apart}
use Rattle.ring_words.proofs.asked.asked_in.Goals as goal
use Rattle.ring_words.proofs.asked.asked_in.Goals.{in_default-via-in-Some+in_default, in_default-via-in_default}

pub returns-in-Some-play-default-clause-named : goal.returns-in-Some-play-default-clause-named
returns-in-Some-play-default-clause-named c =
    let s = c.subcommand.ensures in
    let arm = c.in-Some-play-default in
    flag_told c.args.matches.now c.subcommand.result c.requires s.name s.rows (arm.field-0-0, arm.play) arm.is (codes "play") c.get_flag.result arm.is-play (λ e. cc) play_apart c.get_flag.ensures.value c.get_flag.ensures.other

pub returns-in-Some-step-default-clause-named : goal.returns-in-Some-step-default-clause-named
returns-in-Some-step-default-clause-named c =
    let s = c.subcommand.ensures in
    let arm = c.in-Some-step-default in
    let flag = c.get_flag-in-Some-step-default in
    flag_told c.args.matches.now c.subcommand.result c.requires s.name s.rows (arm.field-0-0, arm.step) arm.is (codes "step") flag.result arm.is-step (λ e. cc) step_apart flag.ensures.value flag.ensures.other

pub returns-in-Some-check-default-clause-named : goal.returns-in-Some-check-default-clause-named
returns-in-Some-check-default-clause-named c =
    let s = c.subcommand.ensures in
    let arm = c.in-Some-check-default in
    check_told c.args.matches.now c.subcommand.result c.requires s.name s.rows (arm.field-0-0, arm.field-0-1) arm.is arm.is-check

pub number-requires : goal.number-requires
number-requires c =
    let s = c.subcommand.ensures in
    let arm = c.in-Some-load-default in
    size_told c.args.matches.now c.subcommand.result c.requires s.name s.rows (arm.field-0-0, arm.load) arm.is arm.is-load

pub number-requires-in-Some-load-default : goal.number-requires-in-Some-load-default
number-requires-in-Some-load-default c =
    let s = c.subcommand.ensures in
    let arm = c.in-Some-load-default in
    seed_told c.args.matches.now c.subcommand.result c.requires s.name s.rows (arm.field-0-0, arm.load) arm.is arm.is-load

pub returns-in-Some-load-default-clause-named : goal.returns-in-Some-load-default-clause-named
returns-in-Some-load-default-clause-named c =
    let s = c.subcommand.ensures in
    let arm = c.in-Some-load-default in
    load_told c.args.matches.now c.subcommand.result c.requires s.name s.rows (arm.field-0-0, arm.load) arm.is arm.is-load c.number.result c.number-in-Some-load-default.result c.number.ensures c.number-in-Some-load-default.ensures

pub returns-in-Some-load-default-clause-range : goal.returns-in-Some-load-default-clause-range
returns-in-Some-load-default-clause-range c =
    let s = c.subcommand.ensures in
    let arm = c.in-Some-load-default in
    range_told c.args.matches.now c.subcommand.result c.requires s.name s.rows (arm.field-0-0, arm.load) arm.is arm.is-load c.number.result c.number-in-Some-load-default.result c.number.ensures c.number-in-Some-load-default.ensures

pub unreachable-requires : goal.unreachable-requires
unreachable-requires c =
    let s = c.subcommand.ensures in
    elim c.in_default.branch [
      | in_default-via-in-Some+in_default w ↦ one_told c.args.matches.now c.subcommand.result c.requires s.name s.rows w.in_default.field-0 w.in_default.is (search rules) (search rules) (search rules) (search rules)
      | in_default-via-in_default w ↦ some_told c.args.matches.now c.subcommand.result c.requires s.name s.rows w.in_default.is
    ]
