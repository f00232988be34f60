-- Worked scripts of lines at their limits.
use Rattle.std.proofs.Common.{◌++◌, replicate, codes}
use Rattle.hp_worked.proofs.WorkedWords.{machine, Worked}

abbrev pub last_line_without_its_end : Worked
last_line_without_its_end = record {
  machine = machine;
  input =
      codes "nr 4\nconnect 1 0\nconnect 2 1\nmeminfo\nnr 1";
  replies =
      codes "ok 4\nok\nok\ntext 6\nHugePages_Total:       4\nHugePages_Free:        4\nHugePages_Rsvd:        0\n"
      ++ codes "HugePages_Surp:        0\nHugepagesize:          1 kB\nHugetlb:               4 kB\nerror 21 BadLine\n";
}

abbrev pub line_at_the_limit_and_empty_line : Worked
line_at_the_limit_and_empty_line = record {
  machine = machine;
  input =
      codes "nr 4\nconnect 1 0\nconnect 2 1\n"
      ++ replicate 1024 97
      ++ codes "\n\nmeminfo\n";
  replies =
      codes "ok 4\nok\nok\nerror 21 BadLine\nerror 21 BadLine\ntext 6\nHugePages_Total:       4\nHugePages_Free:        4\n"
      ++ codes "HugePages_Rsvd:        0\nHugePages_Surp:        0\nHugepagesize:          1 kB\nHugetlb:               4 kB\n";
}

abbrev pub line_past_the_limit : Worked
line_past_the_limit = record {
  machine = machine;
  input =
      codes "nr 4\nconnect 1 0\nconnect 2 1\n"
      ++ replicate 1025 97
      ++ codes "\nmeminfo\n";
  replies =
      codes "ok 4\nok\nok\nerror 22 LineTooLong\ntext 6\nHugePages_Total:       4\nHugePages_Free:        4\n"
      ++ codes "HugePages_Rsvd:        0\nHugePages_Surp:        0\nHugepagesize:          1 kB\nHugetlb:               4 kB\n";
}
