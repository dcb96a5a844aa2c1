pub mod PlainSteady
