-- The mirrors agree, and confirmed messages stand.
pub mod QueueExamples
