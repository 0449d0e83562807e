pub mod ManyCycles
