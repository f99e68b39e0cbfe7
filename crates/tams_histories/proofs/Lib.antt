mod Objects
mod Following
mod Chains
mod Runs
mod Posts
