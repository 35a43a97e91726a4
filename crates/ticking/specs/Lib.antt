-- What a clock changes, place by place.
pub mod Ticks
