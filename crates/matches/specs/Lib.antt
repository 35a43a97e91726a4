-- What a walk along matches may rely on, and what it finds.
pub mod Shapes
