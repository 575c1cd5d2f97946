pub mod Keep
pub mod Lanes
pub mod Observed
pub mod Obey
pub mod Accepted
pub mod AnyRun
pub mod Closed
pub mod Impostors
