-- What the parties keep of their queue stands after each event, how many messages a packet brings, and what comes round by it.
pub mod Brought
pub mod Coming
pub mod Going
pub mod Rounds
