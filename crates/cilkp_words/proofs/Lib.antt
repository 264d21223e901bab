mod RangesOfCommands
mod ReadCommands
