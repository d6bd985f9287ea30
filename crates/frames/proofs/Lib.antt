pub mod HexSum
pub mod Walking
pub mod OneWalk
pub mod Printed
pub mod Tests
pub mod Feeds
