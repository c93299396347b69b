use Rattle.ring_script.proofs.Bodies.{text_has_no_bad}
use Rattle.ring_script.proofs.arguments.read_body.Goals as goal

pub unreachable-requires : goal.unreachable-requires
unreachable-requires c = text_has_no_bad c.args.bytes.now c.in-Err-BadByte.field-0-0 c.requires.text ((rw c.in-Err-BadByte.field-0-is at c.in-Err-BadByte.ensures.fault).1)
