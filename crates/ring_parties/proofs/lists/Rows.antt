-- What is known of a row, and of what was sent of it.
pub use Rattle.ring_rules.proofs.work.Rows.{sent_got, sent_forgot, with_grant-most, risen}
