pub mod leads
pub mod promised
pub mod shared
pub mod witness
