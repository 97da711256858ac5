pub mod DrawnRows
pub mod Late
pub mod Stand
pub mod Apart
