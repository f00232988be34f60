-- Worked scripts of private maps, copies and forks.
use Rattle.std.proofs.Common.{◌++◌, codes}
use Rattle.hp_worked.proofs.WorkedWords.{machine, Worked}

abbrev pub child_copy_refused : Worked
child_copy_refused = record {
  machine = machine;
  input =
      codes "nr 4\nconnect 1 0\nconnect 2 1\nanon 1 4 private\nmeminfo\nstore 1 0 1 0 0 a0\nstore 1 0 1 1 0 a1\n"
      ++ codes "store 1 0 1 2 0 a2\nstore 1 0 1 3 0 a3\nmeminfo\nfork 1 3\nfork 3 4\nstore 3 0 1 0 0 c0\nload 3 0 1 0 0 1\n"
      ++ codes "meminfo\n";
  replies =
      codes "ok 4\nok\nok\nok 1\ntext 6\nHugePages_Total:       4\nHugePages_Free:        4\nHugePages_Rsvd:        4\n"
      ++ codes "HugePages_Surp:        0\nHugepagesize:          1 kB\nHugetlb:               4 kB\nok\nok\nok\nok\ntext 6\n"
      ++ codes "HugePages_Total:       4\nHugePages_Free:        0\nHugePages_Rsvd:        0\nHugePages_Surp:        0\n"
      ++ codes "Hugepagesize:          1 kB\nHugetlb:               4 kB\nok\nok\nerror 2 NoPages\nok a0\ntext 6\n"
      ++ codes "HugePages_Total:       4\nHugePages_Free:        0\nHugePages_Rsvd:        0\nHugePages_Surp:        0\n"
      ++ codes "Hugepagesize:          1 kB\nHugetlb:               4 kB\n";
}

abbrev pub grandchildren_and_a_surplus_copy : Worked
grandchildren_and_a_surplus_copy = record {
  machine = machine;
  input =
      codes "nr 2\nmeminfo\novercommit 1\nmeminfo\nconnect 1 0\nmeminfo\nanon 1 2 private\nmeminfo\n"
      ++ codes "store 1 0 1 0 1022 0a0b\nmeminfo\nfork 1 7\nmeminfo\nfork 7 8\nmeminfo\nstore 1 0 1 0 1022 0c\nmeminfo\n"
      ++ codes "load 1 0 1 0 1022 2\nmeminfo\nload 8 0 1 0 1022 2\nmeminfo\nload 7 0 1 1 0 1\nmeminfo\nstore 1 0 1 1 0 0d\n"
      ++ codes "meminfo\nexit 7\nmeminfo\nexit 8\nmeminfo\nexit 1\nmeminfo\n";
  replies =
      codes "ok 2\ntext 6\nHugePages_Total:       2\nHugePages_Free:        2\nHugePages_Rsvd:        0\n"
      ++ codes "HugePages_Surp:        0\nHugepagesize:          1 kB\nHugetlb:               2 kB\nok\ntext 6\n"
      ++ codes "HugePages_Total:       2\nHugePages_Free:        2\nHugePages_Rsvd:        0\nHugePages_Surp:        0\n"
      ++ codes "Hugepagesize:          1 kB\nHugetlb:               2 kB\nok\ntext 6\nHugePages_Total:       2\n"
      ++ codes "HugePages_Free:        2\nHugePages_Rsvd:        0\nHugePages_Surp:        0\nHugepagesize:          1 kB\n"
      ++ codes "Hugetlb:               2 kB\nok 1\ntext 6\nHugePages_Total:       2\nHugePages_Free:        2\n"
      ++ codes "HugePages_Rsvd:        2\nHugePages_Surp:        0\nHugepagesize:          1 kB\nHugetlb:               2 kB\n"
      ++ codes "ok\ntext 6\nHugePages_Total:       2\nHugePages_Free:        1\nHugePages_Rsvd:        1\n"
      ++ codes "HugePages_Surp:        0\nHugepagesize:          1 kB\nHugetlb:               2 kB\nok\ntext 6\n"
      ++ codes "HugePages_Total:       2\nHugePages_Free:        1\nHugePages_Rsvd:        1\nHugePages_Surp:        0\n"
      ++ codes "Hugepagesize:          1 kB\nHugetlb:               2 kB\nok\ntext 6\nHugePages_Total:       2\n"
      ++ codes "HugePages_Free:        1\nHugePages_Rsvd:        1\nHugePages_Surp:        0\nHugepagesize:          1 kB\n"
      ++ codes "Hugetlb:               2 kB\nok\ntext 6\nHugePages_Total:       3\nHugePages_Free:        1\n"
      ++ codes "HugePages_Rsvd:        1\nHugePages_Surp:        1\nHugepagesize:          1 kB\nHugetlb:               3 kB\n"
      ++ codes "ok 0c0b\ntext 6\nHugePages_Total:       3\nHugePages_Free:        1\nHugePages_Rsvd:        1\n"
      ++ codes "HugePages_Surp:        1\nHugepagesize:          1 kB\nHugetlb:               3 kB\nok 0a0b\ntext 6\n"
      ++ codes "HugePages_Total:       3\nHugePages_Free:        1\nHugePages_Rsvd:        1\nHugePages_Surp:        1\n"
      ++ codes "Hugepagesize:          1 kB\nHugetlb:               3 kB\nerror 2 NoPages\ntext 6\nHugePages_Total:       3\n"
      ++ codes "HugePages_Free:        1\nHugePages_Rsvd:        1\nHugePages_Surp:        1\nHugepagesize:          1 kB\n"
      ++ codes "Hugetlb:               3 kB\nok\ntext 6\nHugePages_Total:       3\nHugePages_Free:        0\n"
      ++ codes "HugePages_Rsvd:        0\nHugePages_Surp:        1\nHugepagesize:          1 kB\nHugetlb:               3 kB\n"
      ++ codes "ok\ntext 6\nHugePages_Total:       3\nHugePages_Free:        0\nHugePages_Rsvd:        0\n"
      ++ codes "HugePages_Surp:        1\nHugepagesize:          1 kB\nHugetlb:               3 kB\nok\ntext 6\n"
      ++ codes "HugePages_Total:       2\nHugePages_Free:        0\nHugePages_Rsvd:        0\nHugePages_Surp:        0\n"
      ++ codes "Hugepagesize:          1 kB\nHugetlb:               2 kB\nok\ntext 6\nHugePages_Total:       2\n"
      ++ codes "HugePages_Free:        2\nHugePages_Rsvd:        0\nHugePages_Surp:        0\nHugepagesize:          1 kB\n"
      ++ codes "Hugetlb:               2 kB\n";
}

abbrev pub owner_copies_where_a_page_is_left : Worked
owner_copies_where_a_page_is_left = record {
  machine = machine;
  input =
      codes "nr 4\nconnect 1 0\nconnect 2 1\nanon 1 4 private\nmeminfo\nstore 1 0 1 0 0 a0\nstore 1 0 1 1 0 a1\n"
      ++ codes "store 1 0 1 2 0 a2\nstore 1 0 1 3 0 a3\nmeminfo\nfork 1 3\nnr 5\nmeminfo\nstore 1 0 1 0 0 b0\nmeminfo\n"
      ++ codes "load 3 0 1 0 0 1\n";
  replies =
      codes "ok 4\nok\nok\nok 1\ntext 6\nHugePages_Total:       4\nHugePages_Free:        4\nHugePages_Rsvd:        4\n"
      ++ codes "HugePages_Surp:        0\nHugepagesize:          1 kB\nHugetlb:               4 kB\nok\nok\nok\nok\ntext 6\n"
      ++ codes "HugePages_Total:       4\nHugePages_Free:        0\nHugePages_Rsvd:        0\nHugePages_Surp:        0\n"
      ++ codes "Hugepagesize:          1 kB\nHugetlb:               4 kB\nok\nok 5\ntext 6\nHugePages_Total:       5\n"
      ++ codes "HugePages_Free:        1\nHugePages_Rsvd:        0\nHugePages_Surp:        0\nHugepagesize:          1 kB\n"
      ++ codes "Hugetlb:               5 kB\nok\ntext 6\nHugePages_Total:       5\nHugePages_Free:        0\n"
      ++ codes "HugePages_Rsvd:        0\nHugePages_Surp:        0\nHugepagesize:          1 kB\nHugetlb:               5 kB\n"
      ++ codes "ok a0\n";
}

abbrev pub owner_takes_page_from_child : Worked
owner_takes_page_from_child = record {
  machine = machine;
  input =
      codes "nr 4\nconnect 1 0\nconnect 2 1\nanon 1 4 private\nmeminfo\nstore 1 0 1 0 0 a0\nstore 1 0 1 1 0 a1\n"
      ++ codes "store 1 0 1 2 0 a2\nstore 1 0 1 3 0 a3\nmeminfo\nfork 1 3\nstore 1 0 1 0 0 b0\nmeminfo\nload 1 0 1 0 0 1\n"
      ++ codes "load 3 0 1 0 0 1\nload 3 0 1 1 0 1\nstore 1 0 1 1 0 b1\nload 3 0 1 1 0 1\n";
  replies =
      codes "ok 4\nok\nok\nok 1\ntext 6\nHugePages_Total:       4\nHugePages_Free:        4\nHugePages_Rsvd:        4\n"
      ++ codes "HugePages_Surp:        0\nHugepagesize:          1 kB\nHugetlb:               4 kB\nok\nok\nok\nok\ntext 6\n"
      ++ codes "HugePages_Total:       4\nHugePages_Free:        0\nHugePages_Rsvd:        0\nHugePages_Surp:        0\n"
      ++ codes "Hugepagesize:          1 kB\nHugetlb:               4 kB\nok\nok\ntext 6\nHugePages_Total:       4\n"
      ++ codes "HugePages_Free:        0\nHugePages_Rsvd:        0\nHugePages_Surp:        0\nHugepagesize:          1 kB\n"
      ++ codes "Hugetlb:               4 kB\nok b0\nerror 5 TakenByOwner\nok a1\nok\nerror 5 TakenByOwner\n";
}

abbrev pub partial_unmap_exit_and_all_frames : Worked
partial_unmap_exit_and_all_frames = record {
  machine = machine;
  input =
      codes "nr 4\nconnect 1 0\nconnect 2 1\nanon 1 3 private\nmeminfo\nunmap 1 0 1 1 2\nmeminfo\nfault 1 0 1 1 read\n"
      ++ codes "exit 1\nmeminfo\nnr 9\nmeminfo\n";
  replies =
      codes "ok 4\nok\nok\nok 1\ntext 6\nHugePages_Total:       4\nHugePages_Free:        4\nHugePages_Rsvd:        3\n"
      ++ codes "HugePages_Surp:        0\nHugepagesize:          1 kB\nHugetlb:               4 kB\nok\ntext 6\n"
      ++ codes "HugePages_Total:       4\nHugePages_Free:        4\nHugePages_Rsvd:        2\nHugePages_Surp:        0\n"
      ++ codes "Hugepagesize:          1 kB\nHugetlb:               4 kB\nerror 17 OutOfRange\nok\ntext 6\n"
      ++ codes "HugePages_Total:       4\nHugePages_Free:        4\nHugePages_Rsvd:        0\nHugePages_Surp:        0\n"
      ++ codes "Hugepagesize:          1 kB\nHugetlb:               4 kB\nok 8\ntext 6\nHugePages_Total:       8\n"
      ++ codes "HugePages_Free:        8\nHugePages_Rsvd:        0\nHugePages_Surp:        0\nHugepagesize:          1 kB\n"
      ++ codes "Hugetlb:               8 kB\n";
}

abbrev pub private_copy_over_file_page : Worked
private_copy_over_file_page = record {
  machine = machine;
  input =
      codes "nr 4\nconnect 1 0\nconnect 2 1\ncreate 0 a\nmap 1 0 a 0 1 shared\nstore 1 0 1 0 0 dd\nmap 2 0 a 0 3 private\n"
      ++ codes "meminfo\nstore 2 0 1 0 0 ee\nmeminfo\nload 2 0 1 0 0 1\nload 1 0 1 0 0 1\nread 0 a 0 0 1\nstat 0 a\n"
      ++ codes "punch 0 a 0 1\nmeminfo\nload 2 0 1 0 0 1\nmeminfo\n";
  replies =
      codes "ok 4\nok\nok\nok\nok 1\nok\nok 1\ntext 6\nHugePages_Total:       4\nHugePages_Free:        3\n"
      ++ codes "HugePages_Rsvd:        3\nHugePages_Surp:        0\nHugepagesize:          1 kB\nHugetlb:               4 kB\n"
      ++ codes "ok\ntext 6\nHugePages_Total:       4\nHugePages_Free:        2\nHugePages_Rsvd:        2\n"
      ++ codes "HugePages_Surp:        0\nHugepagesize:          1 kB\nHugetlb:               4 kB\nok ee\nok dd\nok dd\n"
      ++ codes "ok 3 1 1 2\nok\ntext 6\nHugePages_Total:       4\nHugePages_Free:        4\nHugePages_Rsvd:        2\n"
      ++ codes "HugePages_Surp:        0\nHugepagesize:          1 kB\nHugetlb:               4 kB\nok 00\ntext 6\n"
      ++ codes "HugePages_Total:       4\nHugePages_Free:        3\nHugePages_Rsvd:        2\nHugePages_Surp:        0\n"
      ++ codes "Hugepagesize:          1 kB\nHugetlb:               4 kB\n";
}

abbrev pub private_read_of_hole_keeps_zeros : Worked
private_read_of_hole_keeps_zeros = record {
  machine = machine;
  input =
      codes "nr 4\nconnect 1 0\nconnect 2 1\ncreate 0 a\nmap 2 0 a 0 1 private\nmeminfo\nload 2 0 1 0 0 1\nmeminfo\n"
      ++ codes "map 1 0 a 0 1 shared\nmeminfo\nstore 1 0 1 0 0 77\nmeminfo\nload 2 0 1 0 0 1\nread 0 a 0 0 1\n";
  replies =
      codes "ok 4\nok\nok\nok\nok 1\ntext 6\nHugePages_Total:       4\nHugePages_Free:        4\nHugePages_Rsvd:        1\n"
      ++ codes "HugePages_Surp:        0\nHugepagesize:          1 kB\nHugetlb:               4 kB\nok 00\ntext 6\n"
      ++ codes "HugePages_Total:       4\nHugePages_Free:        3\nHugePages_Rsvd:        0\nHugePages_Surp:        0\n"
      ++ codes "Hugepagesize:          1 kB\nHugetlb:               4 kB\nok 1\ntext 6\nHugePages_Total:       4\n"
      ++ codes "HugePages_Free:        3\nHugePages_Rsvd:        1\nHugePages_Surp:        0\nHugepagesize:          1 kB\n"
      ++ codes "Hugetlb:               4 kB\nok\ntext 6\nHugePages_Total:       4\nHugePages_Free:        2\n"
      ++ codes "HugePages_Rsvd:        0\nHugePages_Surp:        0\nHugepagesize:          1 kB\nHugetlb:               4 kB\n"
      ++ codes "ok 00\nok 77\n";
}

abbrev pub reused_page_is_zero : Worked
reused_page_is_zero = record {
  machine = machine;
  input =
      codes "nr 4\nconnect 1 0\nconnect 2 1\nnr 1\nanon 1 1 private\nstore 1 0 1 0 0 ffff\nunmap 1 0 1 0 1\n"
      ++ codes "anon 2 1 private\nload 2 0 1 0 0 2\n";
  replies =
      codes "ok 4\nok\nok\nok 1\nok 1\nok\nok\nok 1\nok 0000\n";
}

abbrev pub reused_page_is_zero_256_bytes : Worked
reused_page_is_zero_256_bytes = record {
  machine = machine;
  input =
      codes "nr 4\nconnect 1 0\nconnect 2 1\nnr 1\nanon 1 1 private\nstore 1 0 1 0 0 ffffffffffffffffffffffffffffffffffffffffffffffffffffffffffffffffffffffffffffffffffff"
      ++ codes "ffffffffffffffffffffffffffffffffffffffffffffffffffffffffffffffffffffffffffffffffffffffffffffffffffff"
      ++ codes "ffffffffffffffffffffffffffffffffffffffffffffffffffffffffffffffffffffffffffffffffffffffffffffffffffff"
      ++ codes "ffffffffffffffffffffffffffffffffffffffffffffffffffffffffffffffffffffffffffffffffffffffffffffffffffff"
      ++ codes "ffffffffffffffffffffffffffffffffffffffffffffffffffffffffffffffffffffffffffffffffffffffffffffffffffff"
      ++ codes "ffffffffffffffffffffffffffff\n"
      ++ codes "unmap 1 0 1 0 1\nanon 2 1 private\nload 2 0 1 0 0 256\n";
  replies =
      codes "ok 4\nok\nok\nok 1\nok 1\nok\nok\nok 1\nok 0000000000000000000000000000000000000000000000000000000000000000000000000000000000000000000000000"
      ++ codes "0000000000000000000000000000000000000000000000000000000000000000000000000000000000000000000000000000"
      ++ codes "0000000000000000000000000000000000000000000000000000000000000000000000000000000000000000000000000000"
      ++ codes "0000000000000000000000000000000000000000000000000000000000000000000000000000000000000000000000000000"
      ++ codes "0000000000000000000000000000000000000000000000000000000000000000000000000000000000000000000000000000"
      ++ codes "000000000000000\n";
}
