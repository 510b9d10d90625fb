pub mod Who
pub mod Table
pub mod Brief
