use Rattle.ringplay.specs.Performed.{commands_on}
use Rattle.ringplay.proofs.Playing.{performed_of, given_all}
use Rattle.ringplay.proofs.play.play_lines.Goals as goal

pub returns : goal.returns
returns g c =
    let a = c.in_ok-cluster.cluster in
    let d = c.settle.new.self in
    let of = performed_of c.args.credit c.args.names.now a c.perform.new.cluster d c.in_ok-cluster.ensures.opens c.in_ok-perform.ensures.ring c.in_ok-settle.ensures.goes in
    record {
      credit = of.credit;
      names = of.names;
      given = given_all c.args.credit c.args.names.now a c.perform.new.cluster d (commands_on c.args.lines.items) c.in_ok-cluster.ensures.opens c.in_ok-perform.ensures.given c.in_ok-settle.ensures.given;
      going = c.is_going.ensures;
      plays = c.in_ok-settle.ensures.played c.perform.ensures.plays;
      quiet = c.in_ok-settle.ensures.quiet;
      empty = c.in_ok-settle.ensures.empty;
    }
