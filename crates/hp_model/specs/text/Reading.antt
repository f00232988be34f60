-- The step that a line reads as.
use Rattle.std.specs.Prelude.{ℕ, List, Result, Ok, Err, codes, if◌then◌else◌}
use Rattle.std.specs.Str.{bytes_eq}
use Rattle.hp_model.specs.declared.refusal.Refusal.{Refusal}
use Rattle.hp_model.specs.declared.refusal.Refusal.TheVariants.{BadLine}
use Rattle.hp_model.specs.declared.step.Step.{Step}
use Rattle.hp_model.specs.declared.step.Step.TheVariants as step
use Rattle.hp_model.specs.text.Lines.{Line}
use Rattle.hp_model.specs.text.Words.{◌>>=◌, pieces_of_line, piece_at, end_at, word_at, number_at, hex_at, sharing_at, intent_at, reserving_at}

-- ---- what stands after each command

unfoldable pub connect_of : List (List ℕ) → Result Step Refusal
connect_of pieces = do
  task ← number_at pieces
  home ← number_at task.1
  done ← end_at home.1
  Ok (step.Connect task.0 home.0)

unfoldable pub attach_of : List (List ℕ) → Result Step Refusal
attach_of pieces = do
  task ← number_at pieces
  done ← end_at task.1
  Ok (step.Attach task.0)

unfoldable pub fork_of : List (List ℕ) → Result Step Refusal
fork_of pieces = do
  parent ← number_at pieces
  child ← number_at parent.1
  done ← end_at child.1
  Ok (step.Fork parent.0 child.0)

unfoldable pub exit_of : List (List ℕ) → Result Step Refusal
exit_of pieces = do
  task ← number_at pieces
  done ← end_at task.1
  Ok (step.Exit task.0)

unfoldable pub mount_of : List (List ℕ) → Result Step Refusal
mount_of pieces = do
  slot ← number_at pieces
  options ← word_at slot.1
  done ← end_at options.1
  Ok (step.Mount slot.0 options.0)

unfoldable pub remount_of : List (List ℕ) → Result Step Refusal
remount_of pieces = do
  slot ← number_at pieces
  options ← word_at slot.1
  done ← end_at options.1
  Ok (step.Remount slot.0 options.0)

unfoldable pub umount_of : List (List ℕ) → Result Step Refusal
umount_of pieces = do
  slot ← number_at pieces
  done ← end_at slot.1
  Ok (step.Umount slot.0)

unfoldable pub create_of : List (List ℕ) → Result Step Refusal
create_of pieces = do
  slot ← number_at pieces
  name ← word_at slot.1
  done ← end_at name.1
  Ok (step.Create slot.0 name.0)

unfoldable pub unlink_of : List (List ℕ) → Result Step Refusal
unlink_of pieces = do
  slot ← number_at pieces
  name ← word_at slot.1
  done ← end_at name.1
  Ok (step.Unlink slot.0 name.0)

unfoldable pub truncate_of : List (List ℕ) → Result Step Refusal
truncate_of pieces = do
  slot ← number_at pieces
  name ← word_at slot.1
  pages ← number_at name.1
  done ← end_at pages.1
  Ok (step.Truncate slot.0 name.0 pages.0)

unfoldable pub punch_of : List (List ℕ) → Result Step Refusal
punch_of pieces = do
  slot ← number_at pieces
  name ← word_at slot.1
  from ← number_at name.1
  to ← number_at from.1
  done ← end_at to.1
  Ok (step.Punch slot.0 name.0 from.0 to.0)

unfoldable pub preallocate_of : List (List ℕ) → Result Step Refusal
preallocate_of pieces = do
  slot ← number_at pieces
  name ← word_at slot.1
  from ← number_at name.1
  to ← number_at from.1
  done ← end_at to.1
  Ok (step.Preallocate slot.0 name.0 from.0 to.0)

unfoldable pub read_of : List (List ℕ) → Result Step Refusal
read_of pieces = do
  slot ← number_at pieces
  name ← word_at slot.1
  index ← number_at name.1
  offset ← number_at index.1
  count ← number_at offset.1
  done ← end_at count.1
  Ok (step.Read slot.0 name.0 index.0 offset.0 count.0)

unfoldable pub ls_of : List (List ℕ) → Result Step Refusal
ls_of pieces = do
  slot ← number_at pieces
  done ← end_at slot.1
  Ok (step.Ls slot.0)

unfoldable pub stat_of : List (List ℕ) → Result Step Refusal
stat_of pieces = do
  slot ← number_at pieces
  name ← word_at slot.1
  done ← end_at name.1
  Ok (step.Stat slot.0 name.0)

unfoldable pub map_of : List (List ℕ) → Result Step Refusal
map_of pieces = do
  task ← number_at pieces
  slot ← number_at task.1
  name ← word_at slot.1
  from ← number_at name.1
  pages ← number_at from.1
  sharing ← sharing_at pages.1
  reserving ← reserving_at sharing.1
  Ok (step.Map task.0 slot.0 name.0 from.0 pages.0 sharing.0 reserving)

unfoldable pub anon_of : List (List ℕ) → Result Step Refusal
anon_of pieces = do
  task ← number_at pieces
  pages ← number_at task.1
  sharing ← sharing_at pages.1
  reserving ← reserving_at sharing.1
  Ok (step.Anon task.0 pages.0 sharing.0 reserving)

unfoldable pub unmap_of : List (List ℕ) → Result Step Refusal
unmap_of pieces = do
  task ← number_at pieces
  slot ← number_at task.1
  map ← number_at slot.1
  from ← number_at map.1
  to ← number_at from.1
  done ← end_at to.1
  Ok (step.Unmap task.0 slot.0 map.0 from.0 to.0)

unfoldable pub fault_of : List (List ℕ) → Result Step Refusal
fault_of pieces = do
  task ← number_at pieces
  slot ← number_at task.1
  map ← number_at slot.1
  index ← number_at map.1
  intent ← intent_at index.1
  done ← end_at intent.1
  Ok (step.Fault task.0 slot.0 map.0 index.0 intent.0)

unfoldable pub load_of : List (List ℕ) → Result Step Refusal
load_of pieces = do
  task ← number_at pieces
  slot ← number_at task.1
  map ← number_at slot.1
  index ← number_at map.1
  offset ← number_at index.1
  count ← number_at offset.1
  done ← end_at count.1
  Ok (step.Load task.0 slot.0 map.0 index.0 offset.0 count.0)

unfoldable pub store_of : List (List ℕ) → Result Step Refusal
store_of pieces = do
  task ← number_at pieces
  slot ← number_at task.1
  map ← number_at slot.1
  index ← number_at map.1
  offset ← number_at index.1
  bytes ← hex_at offset.1
  done ← end_at bytes.1
  Ok (step.Store task.0 slot.0 map.0 index.0 offset.0 bytes.0)

unfoldable pub nr_of : List (List ℕ) → Result Step Refusal
nr_of pieces = do
  pages ← number_at pieces
  done ← end_at pages.1
  Ok (step.Nr pages.0)

unfoldable pub overcommit_of : List (List ℕ) → Result Step Refusal
overcommit_of pieces = do
  pages ← number_at pieces
  done ← end_at pages.1
  Ok (step.Overcommit pages.0)

unfoldable pub meminfo_of : List (List ℕ) → Result Step Refusal
meminfo_of pieces = do
  done ← end_at pieces
  Ok step.Meminfo

unfoldable pub nodes_of : List (List ℕ) → Result Step Refusal
nodes_of pieces = do
  done ← end_at pieces
  Ok step.Nodes

unfoldable pub df_of : List (List ℕ) → Result Step Refusal
df_of pieces = do
  slot ← number_at pieces
  done ← end_at slot.1
  Ok (step.Df slot.0)

-- ---- commands

-- of the pool
unfoldable pub pool_command : List ℕ → List (List ℕ) → Result Step Refusal
pool_command command pieces =
    if bytes_eq command (codes "nr") then nr_of pieces
    else if bytes_eq command (codes "overcommit") then overcommit_of pieces
    else if bytes_eq command (codes "meminfo") then meminfo_of pieces
    else if bytes_eq command (codes "nodes") then nodes_of pieces
    else Err BadLine

-- of a slot, without a task
unfoldable pub slot_command : List ℕ → List (List ℕ) → Result Step Refusal
slot_command command pieces =
    if bytes_eq command (codes "mount") then mount_of pieces
    else if bytes_eq command (codes "remount") then remount_of pieces
    else if bytes_eq command (codes "umount") then umount_of pieces
    else if bytes_eq command (codes "create") then create_of pieces
    else if bytes_eq command (codes "unlink") then unlink_of pieces
    else if bytes_eq command (codes "truncate") then truncate_of pieces
    else if bytes_eq command (codes "punch") then punch_of pieces
    else if bytes_eq command (codes "preallocate") then preallocate_of pieces
    else if bytes_eq command (codes "read") then read_of pieces
    else if bytes_eq command (codes "ls") then ls_of pieces
    else if bytes_eq command (codes "stat") then stat_of pieces
    else if bytes_eq command (codes "df") then df_of pieces
    else pool_command command pieces

-- of a task, or another
unfoldable pub step_of_command : List ℕ → List (List ℕ) → Result Step Refusal
step_of_command command pieces =
    if bytes_eq command (codes "connect") then connect_of pieces
    else if bytes_eq command (codes "attach") then attach_of pieces
    else if bytes_eq command (codes "fork") then fork_of pieces
    else if bytes_eq command (codes "exit") then exit_of pieces
    else if bytes_eq command (codes "map") then map_of pieces
    else if bytes_eq command (codes "anon") then anon_of pieces
    else if bytes_eq command (codes "unmap") then unmap_of pieces
    else if bytes_eq command (codes "fault") then fault_of pieces
    else if bytes_eq command (codes "load") then load_of pieces
    else if bytes_eq command (codes "store") then store_of pieces
    else slot_command command pieces

-- ---- lines

-- the step that the bytes of a line read as
unfoldable pub step_of_bytes : List ℕ → Result Step Refusal
step_of_bytes line = do
  command ← piece_at (pieces_of_line line)
  step_of_command command.0 command.1

-- the step that a line reads as
abbrev pub step_of : Line → Result Step Refusal
step_of (Ok bytes) = step_of_bytes bytes
step_of (Err refusal) = Err refusal
