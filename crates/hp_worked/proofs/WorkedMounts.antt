-- Worked scripts of mounts, names and refusals.
use Rattle.std.proofs.Common.{◌++◌, [], ◌∷◌, codes}
use Rattle.hp_model.proofs.Words.{start}
use Rattle.hp_worked.proofs.WorkedWords.{machine, Worked}

abbrev pub file_names_and_inodes : Worked
file_names_and_inodes = record {
  machine = machine;
  input =
      codes "nr 4\nconnect 1 0\nconnect 2 1\nmount 2 nr_inodes=1\ncreate 2 x\ncreate 2 x\ncreate 2 y\ncreate 2 a/b\n"
      ++ codes "unlink 2 z\n";
  replies =
      codes "ok 4\nok\nok\nok\nok\nerror 13 FileExists\nerror 14 NoInodes\nerror 15 BadName\nerror 12 NoSuchFile\n";
}

abbrev pub mount_minimum_and_size : Worked
mount_minimum_and_size = record {
  machine = machine;
  input =
      codes "nr 4\nconnect 1 0\nconnect 2 1\nmount 2 size=3K,min_size=2K\nmeminfo\ncreate 2 a\nmap 1 2 a 0 3 private\n"
      ++ codes "meminfo\nmap 2 2 a 0 1 private\ndf 2\numount 2\n";
  replies =
      codes "ok 4\nok\nok\nok\ntext 6\nHugePages_Total:       4\nHugePages_Free:        4\nHugePages_Rsvd:        2\n"
      ++ codes "HugePages_Surp:        0\nHugepagesize:          1 kB\nHugetlb:               4 kB\nok\nok 1\ntext 6\n"
      ++ codes "HugePages_Total:       4\nHugePages_Free:        4\nHugePages_Rsvd:        3\nHugePages_Surp:        0\n"
      ++ codes "Hugepagesize:          1 kB\nHugetlb:               4 kB\nerror 3 MountFull\nok 3 2 3 - 1\nerror 19 Busy\n";
}

abbrev pub mount_minimum_filled_again : Worked
mount_minimum_filled_again = record {
  machine = machine;
  input =
      codes "nr 4\nconnect 1 0\nconnect 2 1\nmount 2 size=3K,min_size=2K\nmeminfo\ncreate 2 a\nmap 1 2 a 0 3 private\n"
      ++ codes "meminfo\nmap 2 2 a 0 1 private\ndf 2\numount 2\nfault 1 2 1 0 write\nfault 1 2 1 1 write\n"
      ++ codes "fault 1 2 1 2 write\nmeminfo\nunmap 1 2 1 0 3\nmeminfo\numount 2\nmeminfo\n";
  replies =
      codes "ok 4\nok\nok\nok\ntext 6\nHugePages_Total:       4\nHugePages_Free:        4\nHugePages_Rsvd:        2\n"
      ++ codes "HugePages_Surp:        0\nHugepagesize:          1 kB\nHugetlb:               4 kB\nok\nok 1\ntext 6\n"
      ++ codes "HugePages_Total:       4\nHugePages_Free:        4\nHugePages_Rsvd:        3\nHugePages_Surp:        0\n"
      ++ codes "Hugepagesize:          1 kB\nHugetlb:               4 kB\nerror 3 MountFull\nok 3 2 3 - 1\nerror 19 Busy\nok\n"
      ++ codes "ok\nok\ntext 6\nHugePages_Total:       4\nHugePages_Free:        1\nHugePages_Rsvd:        0\n"
      ++ codes "HugePages_Surp:        0\nHugepagesize:          1 kB\nHugetlb:               4 kB\nok\ntext 6\n"
      ++ codes "HugePages_Total:       4\nHugePages_Free:        4\nHugePages_Rsvd:        2\nHugePages_Surp:        0\n"
      ++ codes "Hugepagesize:          1 kB\nHugetlb:               4 kB\nok\ntext 6\nHugePages_Total:       4\n"
      ++ codes "HugePages_Free:        4\nHugePages_Rsvd:        0\nHugePages_Surp:        0\nHugepagesize:          1 kB\n"
      ++ codes "Hugetlb:               4 kB\n";
}

abbrev pub mount_minimum_past_the_pool : Worked
mount_minimum_past_the_pool = record {
  machine = machine;
  input =
      codes "nr 4\nconnect 1 0\nconnect 2 1\nmount 2 min_size=5K\ndf 2\nmeminfo\n";
  replies =
      codes "ok 4\nok\nok\nerror 2 NoPages\nerror 8 NoSuchSlot\ntext 6\nHugePages_Total:       4\n"
      ++ codes "HugePages_Free:        4\nHugePages_Rsvd:        0\nHugePages_Surp:        0\nHugepagesize:          1 kB\n"
      ++ codes "Hugetlb:               4 kB\n";
}

abbrev pub mount_minimum_refused_after_shrink : Worked
mount_minimum_refused_after_shrink = record {
  machine = machine;
  input =
      codes "nr 4\nconnect 1 0\nconnect 2 1\nnr 1\nmeminfo\nnodes\nmount 2 min_size=2K\ndf 2\n";
  replies =
      codes "ok 4\nok\nok\nok 1\ntext 6\nHugePages_Total:       1\nHugePages_Free:        1\nHugePages_Rsvd:        0\n"
      ++ codes "HugePages_Surp:        0\nHugepagesize:          1 kB\nHugetlb:               1 kB\ntext 2\n0 0 0 0\n1 1 1 0\n"
      ++ codes "error 2 NoPages\nerror 8 NoSuchSlot\n";
}

abbrev pub mount_option_table : Worked
mount_option_table = record {
  machine = start (1024 ∷ []) 1024 4;
  input =
      codes "nr 4\nmount 1 -\ndf 1\numount 1\nmount 1 size=2K\ndf 1\numount 1\nmount 1 size=1023\ndf 1\numount 1\n"
      ++ codes "overcommit 1020\nmount 1 min_size=1m\ndf 1\numount 1\nmount 1 size=1K,size=3K,nr_inodes=2k\ndf 1\numount 1\n"
      ++ codes "mount 1 size=1K,min_size=2K\nmount 1 size=2X\nmount 1 size=\nmount 1 size=101%\nmount 1 size=1K,\n"
      ++ codes "mount 1 uid=0\nmount 1 nr_inodes=5%\nnr 5\nmount 1 size=50%\ndf 1\numount 1\nnr 7\n"
      ++ codes "mount 1 size=100%,min_size=25%\ndf 1\n";
  replies =
      codes "ok 4\nok\nok - 0 0 - 0\nok\nok\nok 2 0 0 - 0\nok\nok\nok 0 0 0 - 0\nok\nok\nok\nok - 1024 0 - 0\nok\nok\n"
      ++ codes "ok 3 0 0 2048 0\nok\nerror 10 MinOverSize\nerror 11 BadOption\nerror 11 BadOption\nerror 11 BadOption\n"
      ++ codes "error 11 BadOption\nerror 11 BadOption\nerror 11 BadOption\nok 5\nok\nok 2 0 0 - 0\nok\nok 7\nok\n"
      ++ codes "ok 7 1 0 - 0\n";
}

abbrev pub mount_options_and_slots : Worked
mount_options_and_slots = record {
  machine = machine;
  input =
      codes "nr 4\nconnect 1 0\nconnect 2 1\nnr 5\nmount 2 size=2K\ndf 2\nmount 3 size=50%\ndf 3\numount 3\n"
      ++ codes "mount 3 size=1K,min_size=2K\nmount 3 size=2X\nmount 0 -\numount 0\nmount 4 -\n";
  replies =
      codes "ok 4\nok\nok\nok 5\nok\nok 2 0 0 - 0\nok\nok 2 0 0 - 0\nok\nerror 10 MinOverSize\nerror 11 BadOption\n"
      ++ codes "error 9 SlotTaken\nerror 19 Busy\nerror 8 NoSuchSlot\n";
}

abbrev pub preallocate_past_mount_size : Worked
preallocate_past_mount_size = record {
  machine = machine;
  input =
      codes "nr 4\nconnect 1 0\nconnect 2 1\nmount 2 size=1K\ncreate 2 x\npreallocate 2 x 0 2\nstat 2 x\npreallocate 2 x 0 1\n"
      ++ codes "meminfo\n";
  replies =
      codes "ok 4\nok\nok\nok\nok\nerror 3 MountFull\nok 0 0 0 0\nok\ntext 6\nHugePages_Total:       4\n"
      ++ codes "HugePages_Free:        3\nHugePages_Rsvd:        0\nHugePages_Surp:        0\n"
      ++ codes "Hugepagesize:          1 kB\nHugetlb:               4 kB\n";
}

abbrev pub remount_sets_the_limits : Worked
remount_sets_the_limits = record {
  machine = machine;
  input =
      codes "nr 4\nconnect 1 0\nconnect 2 1\nmount 2 size=3K\ncreate 2 a\nmap 1 2 a 0 3 shared\nmeminfo\n"
      ++ codes "remount 2 size=2K,min_size=1K\nmeminfo\ndf 2\nmap 2 2 a 0 3 shared\nmap 2 2 a 3 1 shared\n"
      ++ codes "truncate 2 a 0\nmeminfo\nremount 2 min_size=5K\ndf 2\nremount 2 min_size=4K\nmeminfo\ndf 2\n"
      ++ codes "remount 2 size=50%,min_size=4K\nremount 0 -\nremount 3 -\nremount 2 -\nmeminfo\novercommit 1\n"
      ++ codes "remount 2 min_size=5K\nmeminfo\nremount 2 -\nmeminfo\n";
  replies =
      codes "ok 4\nok\nok\nok\nok\nok 1\ntext 6\nHugePages_Total:       4\nHugePages_Free:        4\n"
      ++ codes "HugePages_Rsvd:        3\nHugePages_Surp:        0\nHugepagesize:          1 kB\n"
      ++ codes "Hugetlb:               4 kB\nok\ntext 6\nHugePages_Total:       4\nHugePages_Free:        4\n"
      ++ codes "HugePages_Rsvd:        3\nHugePages_Surp:        0\nHugepagesize:          1 kB\n"
      ++ codes "Hugetlb:               4 kB\nok 2 1 3 - 1\nok 1\nerror 3 MountFull\nok\ntext 6\n"
      ++ codes "HugePages_Total:       4\nHugePages_Free:        4\nHugePages_Rsvd:        1\n"
      ++ codes "HugePages_Surp:        0\nHugepagesize:          1 kB\nHugetlb:               4 kB\n"
      ++ codes "error 2 NoPages\nok 2 1 0 - 1\nok\ntext 6\nHugePages_Total:       4\nHugePages_Free:        4\n"
      ++ codes "HugePages_Rsvd:        4\nHugePages_Surp:        0\nHugepagesize:          1 kB\n"
      ++ codes "Hugetlb:               4 kB\nok - 4 0 - 1\nerror 10 MinOverSize\nerror 9 SlotTaken\n"
      ++ codes "error 8 NoSuchSlot\nok\ntext 6\nHugePages_Total:       4\nHugePages_Free:        4\n"
      ++ codes "HugePages_Rsvd:        0\nHugePages_Surp:        0\nHugepagesize:          1 kB\n"
      ++ codes "Hugetlb:               4 kB\nok\nok\ntext 6\nHugePages_Total:       5\nHugePages_Free:        5\n"
      ++ codes "HugePages_Rsvd:        5\nHugePages_Surp:        1\nHugepagesize:          1 kB\n"
      ++ codes "Hugetlb:               5 kB\nok\ntext 6\nHugePages_Total:       4\nHugePages_Free:        4\n"
      ++ codes "HugePages_Rsvd:        0\nHugePages_Surp:        0\nHugepagesize:          1 kB\n"
      ++ codes "Hugetlb:               4 kB\n";
}

abbrev pub shared_map_past_mount_size : Worked
shared_map_past_mount_size = record {
  machine = machine;
  input =
      codes "nr 4\nconnect 1 0\nconnect 2 1\nmount 2 size=3K,min_size=2K\nmeminfo\ncreate 2 a\nmap 1 2 a 0 3 shared\n"
      ++ codes "meminfo\ncreate 2 b\nmap 2 2 b 0 1 shared\ndf 2\numount 2\n";
  replies =
      codes "ok 4\nok\nok\nok\ntext 6\nHugePages_Total:       4\nHugePages_Free:        4\nHugePages_Rsvd:        2\n"
      ++ codes "HugePages_Surp:        0\nHugepagesize:          1 kB\nHugetlb:               4 kB\nok\nok 1\ntext 6\n"
      ++ codes "HugePages_Total:       4\nHugePages_Free:        4\nHugePages_Rsvd:        3\nHugePages_Surp:        0\n"
      ++ codes "Hugepagesize:          1 kB\nHugetlb:               4 kB\nok\nerror 3 MountFull\nok 3 2 3 - 2\nerror 19 Busy\n";
}

abbrev pub tasks_maps_and_access_refusals : Worked
tasks_maps_and_access_refusals = record {
  machine = machine;
  input =
      codes "nr 4\nconnect 1 0\nconnect 2 1\nattach 2\nattach 9\nconnect 1 0\nconnect 5 2\nanon 1 1 private\n"
      ++ codes "load 1 0 2 0 0 1\nload 1 0 1 0 1023 2\nload 1 0 1 0 0 257\nmeminfo\n";
  replies =
      codes "ok 4\nok\nok\nok 1\nerror 6 NoSuchTask\nerror 7 TaskExists\nerror 25 NoSuchNode\nok 1\nerror 16 NoSuchMap\n"
      ++ codes "error 18 CrossesPage\nerror 20 TooMany\ntext 6\nHugePages_Total:       4\nHugePages_Free:        4\n"
      ++ codes "HugePages_Rsvd:        1\nHugePages_Surp:        0\nHugepagesize:          1 kB\nHugetlb:               4 kB\n";
}
