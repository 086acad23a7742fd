use denote.Param.Send.{SyncAt}
use denote.RattleType.{RattleType}

-- what a reference to a value of the type holds says the same to every thread
abbrev pub SaysOneToAllThreads : RattleType → Type 0
SaysOneToAllThreads R = (x : R.Denot) → SyncAt R x
