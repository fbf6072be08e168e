mod Parting
mod Copied
mod Looping
mod EachRegion
mod Dropping
