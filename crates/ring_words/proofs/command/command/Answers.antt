use Rattle.std.proofs.Common.{◌∙◌, ap, ap₂}
use Rattle.clap.specs.Words.{App, with_subcommand}
use Rattle.ring_words.proofs.command.command.Goals as goal

pub returns : goal.returns
returns c =
    let top = λ (app : App). app.top in
    let play = c.in_ok-subcommand.ensures.shape c.in_ok-play.ensures.local ∙ ap₂ with_subcommand c.bare.ensures (ap top c.in_ok-play.ensures.app) in
    let step = c.in_ok-subcommand-2.ensures.shape c.in_ok-step.ensures.local ∙ ap₂ with_subcommand play (ap top c.in_ok-step.ensures.app) in
    let check = c.in_ok-subcommand-3.ensures.shape c.new-check.ensures.local ∙ ap₂ with_subcommand step (ap top c.new-check.ensures.app) in
    c.in_ok-command.ensures.shape c.in_ok-load.ensures.local ∙ ap₂ with_subcommand check (ap top c.in_ok-load.ensures.app)
