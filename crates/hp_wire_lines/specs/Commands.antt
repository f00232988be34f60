-- The step of a command.
use Rattle.std.specs.Prelude.{ℕ, List, Option, Some, None, Result, Err}
use Rattle.hp_model.specs.declared.refusal.Refusal.{Refusal}
use Rattle.hp_model.specs.declared.refusal.Refusal.TheVariants.{BadLine}
use Rattle.hp_model.specs.declared.step.Step.{Step}
use Rattle.hp_model.specs.text.Reading.{connect_of, attach_of, fork_of, exit_of, map_of, anon_of, unmap_of, mount_of, remount_of, umount_of, create_of}
use Rattle.hp_model.specs.text.Reading.{unlink_of, truncate_of, punch_of, preallocate_of, read_of, ls_of, stat_of, df_of, nr_of, overcommit_of, meminfo_of, nodes_of}
use Rattle.hp_wire_lines.specs.declared.command.Command.{Command}
use Rattle.hp_wire_lines.specs.declared.command.Command.TheVariants.{Connect, Attach, Fork, Exit, Map, Anon, Unmap, Mount, Remount, Umount, Create}
use Rattle.hp_wire_lines.specs.declared.command.Command.TheVariants.{Unlink, Truncate, Punch, Preallocate, Read, Ls, Stat, Df, Nr, Overcommit, Meminfo, Nodes}

-- by the words after it. With no command the line is bad
abbrev pub step_as : Option Command → List (List ℕ) → Result Step Refusal
step_as (Some Connect) words = connect_of words
step_as (Some Attach) words = attach_of words
step_as (Some Fork) words = fork_of words
step_as (Some Exit) words = exit_of words
step_as (Some Map) words = map_of words
step_as (Some Anon) words = anon_of words
step_as (Some Unmap) words = unmap_of words
step_as (Some Mount) words = mount_of words
step_as (Some Remount) words = remount_of words
step_as (Some Umount) words = umount_of words
step_as (Some Create) words = create_of words
step_as (Some Unlink) words = unlink_of words
step_as (Some Truncate) words = truncate_of words
step_as (Some Punch) words = punch_of words
step_as (Some Preallocate) words = preallocate_of words
step_as (Some Read) words = read_of words
step_as (Some Ls) words = ls_of words
step_as (Some Stat) words = stat_of words
step_as (Some Df) words = df_of words
step_as (Some Nr) words = nr_of words
step_as (Some Overcommit) words = overcommit_of words
step_as (Some Meminfo) words = meminfo_of words
step_as (Some Nodes) words = nodes_of words
step_as None words = Err BadLine
