mod Joined
mod Lasting
mod Placed
mod Taking
mod Walking
