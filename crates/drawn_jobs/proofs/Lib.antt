mod Counts
mod Badges
mod Changed
