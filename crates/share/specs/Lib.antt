-- What the contracts cite, each file on those above it: totals, the method, what it is worth, and how a request ends.
pub mod Totals
pub mod Shares
pub mod Nearness
pub mod Answers
