-- The number and the name of each refusal.
use Rattle.std.specs.Prelude.{ℕ, List, codes}
use Rattle.hp_model.specs.declared.refusal.Refusal.{Refusal}
use Rattle.hp_model.specs.declared.refusal.Refusal.TheVariants.{OutOfMemory, NoPages, MountFull, BeyondEnd, TakenByOwner, NoSuchTask, TaskExists, NoSuchSlot, SlotTaken}
use Rattle.hp_model.specs.declared.refusal.Refusal.TheVariants.{MinOverSize, BadOption, NoSuchFile, FileExists, NoInodes, BadName, NoSuchMap, OutOfRange, CrossesPage}
use Rattle.hp_model.specs.declared.refusal.Refusal.TheVariants.{Busy, TooMany, BadLine, LineTooLong, TraceFull, TrailsDiffer, NoSuchNode}

abbrev pub number_of_refusal : Refusal → ℕ
number_of_refusal OutOfMemory = 1
number_of_refusal NoPages = 2
number_of_refusal MountFull = 3
number_of_refusal BeyondEnd = 4
number_of_refusal TakenByOwner = 5
number_of_refusal NoSuchTask = 6
number_of_refusal TaskExists = 7
number_of_refusal NoSuchSlot = 8
number_of_refusal SlotTaken = 9
number_of_refusal MinOverSize = 10
number_of_refusal BadOption = 11
number_of_refusal NoSuchFile = 12
number_of_refusal FileExists = 13
number_of_refusal NoInodes = 14
number_of_refusal BadName = 15
number_of_refusal NoSuchMap = 16
number_of_refusal OutOfRange = 17
number_of_refusal CrossesPage = 18
number_of_refusal Busy = 19
number_of_refusal TooMany = 20
number_of_refusal BadLine = 21
number_of_refusal LineTooLong = 22
number_of_refusal TraceFull = 23
number_of_refusal TrailsDiffer = 24
number_of_refusal NoSuchNode = 25

abbrev pub name_of_refusal : Refusal → List ℕ
name_of_refusal OutOfMemory = codes "OutOfMemory"
name_of_refusal NoPages = codes "NoPages"
name_of_refusal MountFull = codes "MountFull"
name_of_refusal BeyondEnd = codes "BeyondEnd"
name_of_refusal TakenByOwner = codes "TakenByOwner"
name_of_refusal NoSuchTask = codes "NoSuchTask"
name_of_refusal TaskExists = codes "TaskExists"
name_of_refusal NoSuchSlot = codes "NoSuchSlot"
name_of_refusal SlotTaken = codes "SlotTaken"
name_of_refusal MinOverSize = codes "MinOverSize"
name_of_refusal BadOption = codes "BadOption"
name_of_refusal NoSuchFile = codes "NoSuchFile"
name_of_refusal FileExists = codes "FileExists"
name_of_refusal NoInodes = codes "NoInodes"
name_of_refusal BadName = codes "BadName"
name_of_refusal NoSuchMap = codes "NoSuchMap"
name_of_refusal OutOfRange = codes "OutOfRange"
name_of_refusal CrossesPage = codes "CrossesPage"
name_of_refusal Busy = codes "Busy"
name_of_refusal TooMany = codes "TooMany"
name_of_refusal BadLine = codes "BadLine"
name_of_refusal LineTooLong = codes "LineTooLong"
name_of_refusal TraceFull = codes "TraceFull"
name_of_refusal TrailsDiffer = codes "TrailsDiffer"
name_of_refusal NoSuchNode = codes "NoSuchNode"
