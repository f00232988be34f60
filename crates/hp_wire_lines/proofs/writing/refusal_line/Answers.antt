-- The line of each refusal, by computation.
use Rattle.std.proofs.Common.{◌≡◌, ℕ, List, Err, refl, sym, subst}
use Rattle.std.specs.Fmt.{digits}
use Rattle.hp_model.specs.declared.refusal.Refusal.{Refusal}
use Rattle.hp_model.proofs.Words.{line_of}
use Rattle.hp_wire_lines.proofs.writing.refusal_line.Goals as goal

its_line : {text : List ℕ} {found is : Refusal} → found ≡ is → text ≡ line_of 0 (Err is) → text ≡ line_of 0 (Err found)
its_line {text} same line = subst (λ r. text ≡ line_of 0 (Err r)) (sym same) line

pub returns-in-OutOfMemory-clause-line : goal.returns-in-OutOfMemory-clause-line
unfolding digits
returns-in-OutOfMemory-clause-line c = its_line c.in-OutOfMemory.is refl

pub returns-in-NoPages-clause-line : goal.returns-in-NoPages-clause-line
unfolding digits
returns-in-NoPages-clause-line c = its_line c.in-NoPages.is refl

pub returns-in-MountFull-clause-line : goal.returns-in-MountFull-clause-line
unfolding digits
returns-in-MountFull-clause-line c = its_line c.in-MountFull.is refl

pub returns-in-BeyondEnd-clause-line : goal.returns-in-BeyondEnd-clause-line
unfolding digits
returns-in-BeyondEnd-clause-line c = its_line c.in-BeyondEnd.is refl

pub returns-in-TakenByOwner-clause-line : goal.returns-in-TakenByOwner-clause-line
unfolding digits
returns-in-TakenByOwner-clause-line c = its_line c.in-TakenByOwner.is refl

pub returns-in-NoSuchTask-clause-line : goal.returns-in-NoSuchTask-clause-line
unfolding digits
returns-in-NoSuchTask-clause-line c = its_line c.in-NoSuchTask.is refl

pub returns-in-TaskExists-clause-line : goal.returns-in-TaskExists-clause-line
unfolding digits
returns-in-TaskExists-clause-line c = its_line c.in-TaskExists.is refl

pub returns-in-NoSuchSlot-clause-line : goal.returns-in-NoSuchSlot-clause-line
unfolding digits
returns-in-NoSuchSlot-clause-line c = its_line c.in-NoSuchSlot.is refl

pub returns-in-SlotTaken-clause-line : goal.returns-in-SlotTaken-clause-line
unfolding digits
returns-in-SlotTaken-clause-line c = its_line c.in-SlotTaken.is refl

pub returns-in-MinOverSize-clause-line : goal.returns-in-MinOverSize-clause-line
unfolding digits
returns-in-MinOverSize-clause-line c = its_line c.in-MinOverSize.is refl

pub returns-in-BadOption-clause-line : goal.returns-in-BadOption-clause-line
unfolding digits
returns-in-BadOption-clause-line c = its_line c.in-BadOption.is refl

pub returns-in-NoSuchFile-clause-line : goal.returns-in-NoSuchFile-clause-line
unfolding digits
returns-in-NoSuchFile-clause-line c = its_line c.in-NoSuchFile.is refl

pub returns-in-FileExists-clause-line : goal.returns-in-FileExists-clause-line
unfolding digits
returns-in-FileExists-clause-line c = its_line c.in-FileExists.is refl

pub returns-in-NoInodes-clause-line : goal.returns-in-NoInodes-clause-line
unfolding digits
returns-in-NoInodes-clause-line c = its_line c.in-NoInodes.is refl

pub returns-in-BadName-clause-line : goal.returns-in-BadName-clause-line
unfolding digits
returns-in-BadName-clause-line c = its_line c.in-BadName.is refl

pub returns-in-NoSuchMap-clause-line : goal.returns-in-NoSuchMap-clause-line
unfolding digits
returns-in-NoSuchMap-clause-line c = its_line c.in-NoSuchMap.is refl

pub returns-in-OutOfRange-clause-line : goal.returns-in-OutOfRange-clause-line
unfolding digits
returns-in-OutOfRange-clause-line c = its_line c.in-OutOfRange.is refl

pub returns-in-CrossesPage-clause-line : goal.returns-in-CrossesPage-clause-line
unfolding digits
returns-in-CrossesPage-clause-line c = its_line c.in-CrossesPage.is refl

pub returns-in-Busy-clause-line : goal.returns-in-Busy-clause-line
unfolding digits
returns-in-Busy-clause-line c = its_line c.in-Busy.is refl

pub returns-in-TooMany-clause-line : goal.returns-in-TooMany-clause-line
unfolding digits
returns-in-TooMany-clause-line c = its_line c.in-TooMany.is refl

pub returns-in-BadLine-clause-line : goal.returns-in-BadLine-clause-line
unfolding digits
returns-in-BadLine-clause-line c = its_line c.in-BadLine.is refl

pub returns-in-LineTooLong-clause-line : goal.returns-in-LineTooLong-clause-line
unfolding digits
returns-in-LineTooLong-clause-line c = its_line c.in-LineTooLong.is refl

pub returns-in-TraceFull-clause-line : goal.returns-in-TraceFull-clause-line
unfolding digits
returns-in-TraceFull-clause-line c = its_line c.in-TraceFull.is refl

pub returns-in-TrailsDiffer-clause-line : goal.returns-in-TrailsDiffer-clause-line
unfolding digits
returns-in-TrailsDiffer-clause-line c = its_line c.in-TrailsDiffer.is refl

pub returns-in-NoSuchNode-clause-line : goal.returns-in-NoSuchNode-clause-line
unfolding digits
returns-in-NoSuchNode-clause-line c = its_line c.in-NoSuchNode.is refl
