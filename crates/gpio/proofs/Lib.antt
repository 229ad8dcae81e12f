mod Settled
mod Noticed
