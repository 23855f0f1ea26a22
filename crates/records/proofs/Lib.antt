mod Padding
mod Outputs
