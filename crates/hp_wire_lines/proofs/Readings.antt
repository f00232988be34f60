-- What is opened to read the words after a command.
use Rattle.hp_model.specs.text.Reading.{connect_of, attach_of, fork_of, exit_of, map_of, anon_of, unmap_of, mount_of, remount_of, umount_of, create_of}
use Rattle.hp_model.specs.text.Reading.{unlink_of, truncate_of, punch_of, preallocate_of, read_of, ls_of, stat_of, df_of, nr_of, overcommit_of, meminfo_of, nodes_of}

unfoldable pub task_readings : Unit {0}
unfolding connect_of attach_of fork_of exit_of map_of anon_of unmap_of
task_readings = tt

unfoldable pub slot_readings : Unit {0}
unfolding mount_of remount_of umount_of create_of unlink_of truncate_of punch_of preallocate_of read_of ls_of stat_of df_of
slot_readings = tt

unfoldable pub readings : Unit {0}
unfolding task_readings slot_readings nr_of overcommit_of meminfo_of nodes_of
readings = tt
