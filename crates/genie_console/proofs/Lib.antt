mod Told
mod Writing
