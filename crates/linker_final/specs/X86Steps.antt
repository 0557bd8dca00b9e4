-- What the emulator unicorn 2.0.1 made of instructions. `tools/oracle steps` makes this file.
use Rattle.std.specs.Prelude.{List, [], ◌∷◌}
use Rattle.linker_final.specs.Steps.{Group, at, flags, group, m0, m1, pc, row, ◌=>◌, ◌with◌}

unfoldable pub x86_groups : List Group
x86_groups =
    -- mov
    group 0x8d5 (
    row 1 0x408b3d5415c22c with (7, 0) with (m1, 0) with (at, 0x70005edb9434) ∷
    row 2 0x488b3d00000080 with (7, 1) with (m1, 0xffffffff) with (at, 0x6fffa0406063)
    => (7, 0xffffffff) ∷
    row 3 0x448b3d6bba1006 with (15, 0xffffffffffffffff) with (m1, 0x7fffffffffffffff)
    with (at, 0x70003020d477) => (15, 0xffffffff) ∷
    row 4 0x4c8b2dffffff7f with (13, 0x8000000000000000) with (m1, 1) with (at, 0x70008f88abdc)
    => (13, 1) ∷
    row 5 0x8b05a31f7023 with (0, 0x7fffffffffffffff) with (m1, 0xffffffff7fffffff)
    with (at, 0x7000341a3577) => (0, 0x7fffffff) ∷
    row 6 0x448b3db352112f with (15, 0x80000000) with (m1, 0x80000000) with (at, 0x70005c85aaa8) ∷
    row 7 0x408b15ffffff7f with (2, 0x7fffffff) with (m1, 0xffffffffffffffff)
    with (at, 0x7000a5e7723b) => (2, 0xffffffff) ∷
    row 8 0x8b2dbd3fab2c with (5, 0xffffffff) with (m1, 0xffffffff80000000)
    with (at, 0x700066aea466) => (5, 0x80000000) ∷
    row 9 0x8b1564ff2b36 with (2, 0xffffffff7fffffff) with (m1, 0x7fffffff)
    with (at, 0x70005ff42ea2) => (2, 0x7fffffff) ∷
    row 10 0x4c8b2500000080 with (12, 0xffffffff80000000) with (m1, 0x8000000000000000)
    with (at, 0x6fffb535d1fc) => (12, 0x8000000000000000) ∷
    row 11 0x8b25eb368076 with (4, 1) with (m1, 1) with (at, 0x700092cc83c9) ∷
    row 12 0x448b257a7a2034 with (12, 0xffffffffffffffff) with (m1, 0xffffffff7fffffff)
    with (at, 0x7000532c1a65) => (12, 0x7fffffff) ∷
    row 13 0x4c8b3500000080 with (14, 0x8000000000000000) with (m1, 0x80000000)
    with (at, 0x6fffbd73cb1d) => (14, 0x80000000) ∷
    row 14 0x8b1569bb213a with (2, 0x7fffffffffffffff) with (m1, 0xffffffffffffffff)
    with (at, 0x700071a689df) => (2, 0xffffffff) ∷
    row 15 0x448b3dffffff7f with (15, 0x80000000) with (m1, 0xffffffff80000000)
    with (at, 0x70008d3ea9f7) ∷
    row 16 0x8b1500000080 with (2, 0x7fffffff) with (m1, 0x7fffffff) with (at, 0x6fffbea15d9f) ∷
    row 17 0x4c8b2531de5717 with (12, 0xffffffff) with (m1, 0x8000000000000000)
    with (at, 0x70002304c7a0) => (12, 0x8000000000000000) ∷
    row 18 0x488b35ffffff7f with (6, 0xffffffff7fffffff) with (m1, 0) with (at, 0x7000b4614d65)
    => (6, 0) ∷
    row 19 0x4c8b0d8e7ceb19 with (9, 0xffffffff80000000) with (m1, 0xffffffff)
    with (at, 0x700052aa0612) => (9, 0xffffffff) ∷
    row 20 0x448b355b332547 with (14, 0) with (m1, 0x7fffffffffffffff) with (at, 0x70005fe9d124)
    => (14, 0xffffffff) ∷
    row 21 0x8b0539e62f61 with (at, 0x700075a3706e) => (0, 0xc8845a1c) ∷
    row 22 0x448b1520b4b145 with (at, 0x7000717d02ea) => (10, 0x446d7b4f) ∷
    row 23 0x8b3d9a9dcde1 with (at, 0x70000099891e) => (7, 0x9bff74a9) ∷
    row 24 0x8b3db7983d35 with (at, 0x700062b2f91d) => (7, 0xcf3a462b) ∷
    row 25 0x448b2d2ee21156 with (at, 0x70006dd98f9f) => (13, 0xde1defd4) ∷
    row 26 0x448b35181c2aac with (at, 0x6fffc9eceeba) => (14, 0xc8aa71a4) ∷
    row 27 0x8b2daf6acfdb with (at, 0x70001b363aa8) => (5, 0x8edfcb9c) ∷
    row 28 0x448b0562508c82 with (at, 0x6fffbf3ff5db) => (8, 0x30bdfdbb) ∷
    row 29 0x408b35dd154a2a with (at, 0x70003ff368fd) => (6, 0xae450801) ∷
    row 30 0x8b2de87a54f5 with (at, 0x6fffff9c53d5) => (5, 0x774ea6e) ∷
    row 31 0x408b0d3e03cba8 with (at, 0x6fffc35a3a21) => (1, 0x3c4da503) ∷
    row 32 0x8b15c86d24d8 with (at, 0x6fffdea3dac7) => (2, 0x4ccf37bf) ∷
    row 33 0x8b15fb2cc281 with (at, 0x6fff8fdaa83e) => (2, 0x38f9a2a2) ∷
    row 34 0x488b152dbffad0 with (at, 0x7000025520dc) => (2, 0x86d1b9e300cce5ac) ∷
    row 35 0x448b15358fd4b6 with (at, 0x6fffe719af76) => (10, 0xa44900de) ∷
    row 36 0x8b2dffe0c676 with (at, 0x7000819f97f9) => (5, 0x236df437) ∷
    row 37 0x8b15a81b8110 with (at, 0x700011964183) => (2, 0x7e3bbfb7) ∷
    row 38 0x4c8b2d29e8ad68 with (at, 0x70007ba8550d) => (13, 0xf938e8bab4b2635f) ∷
    row 39 0x8b258a35a63b with (at, 0x70003c2ec19c) => (4, 0xc6d1df2e) ∷
    row 40 0x8b05b12ef141 with (at, 0x70004bb0b21a) => (0, 0xb49a3324) ∷
    []) ∷
    -- lea
    group 0x8d5 (
    row 41 0x408d0d75facc57 with (1, 0) with (m1, 0) with (at, 0x7000866c4d5d) => (1, 0x866c4d65) ∷
    row 42 0x8d0d00000080 with (1, 1) with (m1, 0xffffffff) with (at, 0x6fffaf27fa8c)
    => (1, 0xaf27fa94) ∷
    row 43 0x8d2dabfdc425 with (5, 0xffffffffffffffff) with (m1, 0x7fffffffffffffff)
    with (at, 0x7000311e7804) => (5, 0x311e780c) ∷
    row 44 0x8d35ffffff7f with (6, 0x8000000000000000) with (m1, 1) with (at, 0x70008333d24b)
    => (6, 0x8333d253) ∷
    row 45 0x8d2deebc386e with (5, 0x7fffffffffffffff) with (m1, 0xffffffff7fffffff)
    with (at, 0x700084efbf55) => (5, 0x84efbf5d) ∷
    row 46 0x448d15035c8e18 with (10, 0x80000000) with (m1, 0x80000000) with (at, 0x70001e7166ae)
    => (10, 0x1e7166b6) ∷
    row 47 0x8d2dffffff7f with (5, 0x7fffffff) with (m1, 0xffffffffffffffff)
    with (at, 0x700090b7eb12) => (5, 0x90b7eb1a) ∷
    row 48 0x408d2d785a397c with (5, 0xffffffff) with (m1, 0xffffffff80000000)
    with (at, 0x7000b36efe1d) => (5, 0xb36efe25) ∷
    row 49 0x408d1d5936c052 with (3, 0xffffffff7fffffff) with (m1, 0x7fffffff)
    with (at, 0x70008c1c6ab6) => (3, 0x8c1c6abe) ∷
    row 50 0x8d2d00000080 with (5, 0xffffffff80000000) with (m1, 0x8000000000000000)
    with (at, 0x6fff972b9d3c) => (5, 0x972b9d44) ∷
    row 51 0x448d0d50128a58 with (9, 1) with (m1, 1) with (at, 0x7000692df094) => (9, 0x692df09c) ∷
    row 52 0x4c8d3dbc3b422d with (15, 0xffffffffffffffff) with (m1, 0xffffffff7fffffff)
    with (at, 0x70005307332e) => (15, 0x700053073336) ∷
    row 53 0x8d3500000080 with (6, 0x8000000000000000) with (m1, 0x80000000)
    with (at, 0x6fff968ee8c6) => (6, 0x968ee8ce) ∷
    row 54 0x488d1dffd69343 with (3, 0x7fffffffffffffff) with (m1, 0xffffffffffffffff)
    with (at, 0x700066958942) => (3, 0x70006695894a) ∷
    row 55 0x448d05ffffff7f with (8, 0x80000000) with (m1, 0xffffffff80000000)
    with (at, 0x70008b1d53e6) => (8, 0x8b1d53ee) ∷
    row 56 0x8d2500000080 with (4, 0x7fffffff) with (m1, 0x7fffffff) with (at, 0x6fff8ee1cdb1)
    => (4, 0x8ee1cdb9) ∷
    row 57 0x8d3d10723d08 with (7, 0xffffffff) with (m1, 0x8000000000000000)
    with (at, 0x7000368c91b3) => (7, 0x368c91bb) ∷
    row 58 0x8d2dffffff7f with (5, 0xffffffff7fffffff) with (m1, 0) with (at, 0x7000a96549bc)
    => (5, 0xa96549c4) ∷
    row 59 0x488d1538df1431 with (2, 0xffffffff80000000) with (m1, 0xffffffff)
    with (at, 0x700031392b37) => (2, 0x700031392b3f) ∷
    row 60 0x408d05ab1f055b with (0, 0) with (m1, 0x7fffffffffffffff) with (at, 0x70008d914612)
    => (0, 0x8d91461a) ∷
    row 61 0x8d258dcbc1e5 with (at, 0x6fffe65ea482) => (4, 0xe65ea48a) ∷
    row 62 0x8d3534b0057f with (at, 0x7000a95c13e0) => (6, 0xa95c13e8) ∷
    row 63 0x448d157053adc3 with (at, 0x6ffff36619fb) => (10, 0xf3661a03) ∷
    row 64 0x488d053c541b3e with (at, 0x70004edf55cc) => (0, 0x70004edf55d4) ∷
    row 65 0x8d35bc563548 with (at, 0x700055ad6b78) => (6, 0x55ad6b80) ∷
    row 66 0x408d1da4e2dbed with (at, 0x700013b0e2b5) => (3, 0x13b0e2bd) ∷
    row 67 0x408d25e6346fe8 with (at, 0x70000249f872) => (4, 0x249f87a) ∷
    row 68 0x8d0df3a752b5 with (at, 0x6fffdedc0720) => (1, 0xdedc0728) ∷
    row 69 0x8d155da89b7f with (at, 0x7000947c7b53) => (2, 0x947c7b5b) ∷
    row 70 0x408d2d162607a1 with (at, 0x6fffbce844fe) => (5, 0xbce84506) ∷
    row 71 0x8d3534080aa2 with (at, 0x6fffe0944b33) => (6, 0xe0944b3b) ∷
    row 72 0x4c8d2582d0dba1 with (at, 0x6fffdeb80fc2) => (12, 0x6fffdeb80fca) ∷
    row 73 0x408d0d8e6508c8 with (at, 0x6fffdedf7934) => (1, 0xdedf793c) ∷
    row 74 0x8d3d5113fcf6 with (at, 0x70000376d384) => (7, 0x376d38c) ∷
    row 75 0x8d256ba38df4 with (at, 0x70001254e854) => (4, 0x1254e85c) ∷
    row 76 0x448d1d0dda668a with (at, 0x6fff95237bd3) => (11, 0x95237bdb) ∷
    row 77 0x8d258b7f71d7 with (at, 0x6fffeacc5654) => (4, 0xeacc565c) ∷
    row 78 0x488d250f892933 with (at, 0x70006acb6d04) => (4, 0x70006acb6d0c) ∷
    row 79 0x4c8d1d49b1e45d with (at, 0x700095767a90) => (11, 0x700095767a98) ∷
    row 80 0x448d2d5c4415d1 with (at, 0x6fffe43fcb1d) => (13, 0xe43fcb25) ∷
    []) ∷
    -- test
    group 0x8c5 (
    row 81 0x40853d57fc677b with (7, 0) with (m1, 0) with (at, 0x700085d418b9) => (flags, 0x44) ∷
    row 82 0x853500000080 with (6, 1) with (m1, 0xffffffff) with (at, 0x6fff9d568a29) => (flags, 0)
    ∷
    row 83 0x851d7d7b6b60 with (3, 0xffffffffffffffff) with (m1, 0x7fffffffffffffff)
    with (at, 0x70006c554b95) => (flags, 0x84) ∷
    row 84 0x448505ffffff7f with (8, 0x8000000000000000) with (m1, 1) with (at, 0x70009625ee2f)
    => (flags, 0x44) ∷
    row 85 0x4c8515b59b482c with (10, 0x7fffffffffffffff) with (m1, 0xffffffff7fffffff)
    with (at, 0x700068538023) => (flags, 4) ∷
    row 86 0x44850d0df7922a with (9, 0x80000000) with (m1, 0x80000000) with (at, 0x7000682ba9e0)
    => (flags, 0x84) ∷
    row 87 0x8505ffffff7f with (0, 0x7fffffff) with (m1, 0xffffffffffffffff)
    with (at, 0x70009acf595d) => (flags, 4) ∷
    row 88 0x850d2814b24d with (1, 0xffffffff) with (m1, 0xffffffff80000000)
    with (at, 0x70006160ec3a) => (flags, 0x84) ∷
    row 89 0x44853d451dfe38 with (15, 0xffffffff7fffffff) with (m1, 0x7fffffff)
    with (at, 0x700061354c33) => (flags, 4) ∷
    row 90 0x853500000080 with (6, 0xffffffff80000000) with (m1, 0x8000000000000000)
    with (at, 0x6fff98685def) => (flags, 0x44) ∷
    row 91 0x850db8ddae46 with (1, 1) with (m1, 1) with (at, 0x70006af142d1) => (flags, 0) ∷
    row 92 0x40853df5521a32 with (7, 0xffffffffffffffff) with (m1, 0xffffffff7fffffff)
    with (at, 0x70003ddf9760) => (flags, 4) ∷
    row 93 0x44851500000080 with (10, 0x8000000000000000) with (m1, 0x80000000)
    with (at, 0x6fff8ef0fbe3) => (flags, 0x44) ∷
    row 94 0x85055293d153 with (0, 0x7fffffffffffffff) with (m1, 0xffffffffffffffff)
    with (at, 0x700081971ed3) => (flags, 0x84) ∷
    row 95 0x488515ffffff7f with (2, 0x80000000) with (m1, 0xffffffff80000000)
    with (at, 0x7000a842f348) => (flags, 4) ∷
    row 96 0x4c853500000080 with (14, 0x7fffffff) with (m1, 0x7fffffff) with (at, 0x6fffbe693337)
    => (flags, 4) ∷
    row 97 0x8535a139fa68 with (6, 0xffffffff) with (m1, 0x8000000000000000)
    with (at, 0x7000993284ec) => (flags, 0x44) ∷
    row 98 0x4c852dffffff7f with (13, 0xffffffff7fffffff) with (m1, 0) with (at, 0x7000bdb03b87)
    => (flags, 0x44) ∷
    row 99 0x853d1adbd976 with (7, 0xffffffff80000000) with (m1, 0xffffffff)
    with (at, 0x70009daadf05) => (flags, 0x84) ∷
    row 100 0x4885258f7c9764 with (4, 0) with (m1, 0x7fffffffffffffff) with (at, 0x700090322106)
    => (flags, 0x44) ∷
    row 101 0x8515ac324a49 with (at, 0x700055574fd4) => (flags, 0x84) ∷
    row 102 0x44852d14f09813 with (at, 0x70001bc15e17) => (flags, 0) ∷
    row 103 0x851d43297620 with (at, 0x70004062c045) => (flags, 4) ∷
    row 104 0x852504046c75 with (at, 0x700088c59c2e) => (flags, 0) ∷
    row 105 0x48851de4af06b4 with (at, 0x6fffd676215f) => (flags, 0x80) ∷
    row 106 0x8505854f7c75 with (at, 0x700082aa7275) => (flags, 0) ∷
    row 107 0x851db27d78e5 with (at, 0x6ffff90e2a40) => (flags, 0x84) ∷
    row 108 0x48852546955c3c with (at, 0x70007202a39a) => (flags, 0x80) ∷
    row 109 0x4885150c9c8ea4 with (at, 0x6fffd7ede44d) => (flags, 4) ∷
    row 110 0x4c8525e34e0804 with (at, 0x700010c9a938) => (flags, 0) ∷
    row 111 0x40850d4cf8fe37 with (at, 0x700039cb3cdc) => (flags, 4) ∷
    row 112 0x4c8535f9eaa3bb with (at, 0x6fffce23f1eb) => (flags, 0) ∷
    row 113 0x85259eb7ac8b with (at, 0x6fffca895918) => (flags, 0) ∷
    row 114 0x4485053e15bc54 with (at, 0x70005b9e296a) => (flags, 0x80) ∷
    row 115 0x4c8505c2cb07c9 with (at, 0x6ffff3982ac6) => (flags, 0) ∷
    row 116 0x852590209997 with (at, 0x6fffc180a292) => (flags, 0) ∷
    row 117 0x8525824dcd1c with (at, 0x700021b4caab) => (flags, 0x84) ∷
    row 118 0x85155a614318 with (at, 0x700053d3b1d1) => (flags, 0x80) ∷
    row 119 0x8535ec3b400e with (at, 0x70001c2237d8) => (flags, 4) ∷
    row 120 0x408505353349fc with (at, 0x70003825b2bf) => (flags, 0) ∷
    []) ∷
    -- mov $
    group 0x8d5 (
    row 121 0x41c7c500000000 with (13, 0) ∷
    row 122 0xc7c500000080 with (5, 1) => (5, 0x80000000) ∷
    row 123 0x40c7c701000000 with (7, 0xffffffffffffffff) => (7, 1) ∷
    row 124 0x40c7c4ffffff7f with (4, 0x8000000000000000) => (4, 0x7fffffff) ∷
    row 125 0x40c7c2ffffffff with (2, 0x7fffffffffffffff) => (2, 0xffffffff) ∷
    row 126 0x48c7c601000000 with (6, 0x80000000) => (6, 1) ∷
    row 127 0xc7c1ffffff7f with (1, 0x7fffffff) ∷
    row 128 0xc7c2ffffffff with (2, 0xffffffff) ∷
    row 129 0xc7c000000000 with (0, 0xffffffff7fffffff) => (0, 0) ∷
    row 130 0xc7c700000080 with (7, 0xffffffff80000000) => (7, 0x80000000) ∷
    row 131 0x40c7c3ffffffff with (3, 1) => (3, 0xffffffff) ∷
    row 132 0x40c7c500000000 with (5, 0xffffffffffffffff) => (5, 0) ∷
    row 133 0x40c7c300000080 with (3, 0x8000000000000000) => (3, 0x80000000) ∷
    row 134 0xc7c701000000 with (7, 0x7fffffffffffffff) => (7, 1) ∷
    row 135 0x49c7c5ffffff7f with (13, 0x80000000) => (13, 0x7fffffff) ∷
    row 136 0x48c7c400000080 with (4, 0x7fffffff) => (4, 0xffffffff80000000) ∷
    row 137 0xc7c201000000 with (2, 0xffffffff) => (2, 1) ∷
    row 138 0x41c7c5ffffff7f with (13, 0xffffffff7fffffff) => (13, 0x7fffffff) ∷
    row 139 0xc7c2ffffffff with (2, 0xffffffff80000000) => (2, 0xffffffff) ∷
    row 140 0x49c7c300000000 with (11, 0) ∷
    row 141 0xc7c2a45081e1 => (2, 0xe18150a4) ∷
    row 142 0x40c7c26abe6128 => (2, 0x2861be6a) ∷
    row 143 0x49c7c1335a631b => (9, 0x1b635a33) ∷
    row 144 0x49c7c4289f5267 => (12, 0x67529f28) ∷
    row 145 0xc7c06973ec59 => (0, 0x59ec7369) ∷
    row 146 0xc7c3be4d6d26 => (3, 0x266d4dbe) ∷
    row 147 0x41c7c140c8fbe0 => (9, 0xe0fbc840) ∷
    row 148 0xc7c7aaced889 => (7, 0x89d8ceaa) ∷
    row 149 0x40c7c3b88b9f82 => (3, 0x829f8bb8) ∷
    row 150 0x40c7c355a65ee4 => (3, 0xe45ea655) ∷
    row 151 0x41c7c057b8f865 => (8, 0x65f8b857) ∷
    row 152 0xc7c59bb0fe69 => (5, 0x69feb09b) ∷
    row 153 0x40c7c7713d107b => (7, 0x7b103d71) ∷
    row 154 0x49c7c3fcd4b2ec => (11, 0xffffffffecb2d4fc) ∷
    row 155 0xc7c05996043b => (0, 0x3b049659) ∷
    row 156 0xc7c0bf13f351 => (0, 0x51f313bf) ∷
    row 157 0xc7c4deb6f1fb => (4, 0xfbf1b6de) ∷
    row 158 0xc7c44fc3f376 => (4, 0x76f3c34f) ∷
    row 159 0xc7c08b092fde => (0, 0xde2f098b) ∷
    row 160 0x41c7c3f215908b => (11, 0x8b9015f2) ∷
    []) ∷
    -- test $
    group 0x8c5 (
    row 161 0x49f7c500000000 with (13, 0) => (flags, 0x44) ∷
    row 162 0x40f7c100000080 with (1, 1) => (flags, 0x44) ∷
    row 163 0x49f7c301000000 with (11, 0xffffffffffffffff) => (flags, 0) ∷
    row 164 0x40f7c4ffffff7f with (4, 0x8000000000000000) => (flags, 0x44) ∷
    row 165 0x41f7c5ffffffff with (13, 0x7fffffffffffffff) => (flags, 0x84) ∷
    row 166 0x48f7c701000000 with (7, 0x80000000) => (flags, 0x44) ∷
    row 167 0x40f7c6ffffff7f with (6, 0x7fffffff) => (flags, 4) ∷
    row 168 0xf7c3ffffffff with (3, 0xffffffff) => (flags, 0x84) ∷
    row 169 0xf7c400000000 with (4, 0xffffffff7fffffff) => (flags, 0x44) ∷
    row 170 0x40f7c400000080 with (4, 0xffffffff80000000) => (flags, 0x84) ∷
    row 171 0xf7c4ffffffff with (4, 1) => (flags, 0) ∷
    row 172 0x41f7c100000000 with (9, 0xffffffffffffffff) => (flags, 0x44) ∷
    row 173 0xf7c100000080 with (1, 0x8000000000000000) => (flags, 0x44) ∷
    row 174 0xf7c601000000 with (6, 0x7fffffffffffffff) => (flags, 0) ∷
    row 175 0x40f7c0ffffff7f with (0, 0x80000000) => (flags, 0x44) ∷
    row 176 0xf7c500000080 with (5, 0x7fffffff) => (flags, 0x44) ∷
    row 177 0xf7c401000000 with (4, 0xffffffff) => (flags, 0) ∷
    row 178 0xf7c0ffffff7f with (0, 0xffffffff7fffffff) => (flags, 4) ∷
    row 179 0x41f7c1ffffffff with (9, 0xffffffff80000000) => (flags, 0x84) ∷
    row 180 0x40f7c600000000 with (6, 0) => (flags, 0x44) ∷
    row 181 0x48f7c00a1bf947 => (flags, 0) ∷
    row 182 0x49f7c00637b2e1 => (flags, 0x80) ∷
    row 183 0xf7c0f4a4d86c => (flags, 4) ∷
    row 184 0xf7c3e5480665 => (flags, 4) ∷
    row 185 0xf7c171e14948 => (flags, 0) ∷
    row 186 0xf7c12f9cf01c => (flags, 0) ∷
    row 187 0xf7c3750be407 => (flags, 0) ∷
    row 188 0xf7c3478a4e8d => (flags, 4) ∷
    row 189 0x41f7c743c585db => (flags, 4) ∷
    row 190 0xf7c12a881d55 => (flags, 0) ∷
    row 191 0xf7c51b6e1e47 => (flags, 4) ∷
    row 192 0xf7c1c5bfa16b => (flags, 4) ∷
    row 193 0xf7c4ab3b31aa ∷
    row 194 0xf7c402b87213 => (flags, 4) ∷
    row 195 0x49f7c6e9b6aff1 => (flags, 4) ∷
    row 196 0x40f7c2380e1908 => (flags, 0) ∷
    row 197 0xf7c5f8f00f88 => (flags, 0) ∷
    row 198 0x49f7c1cd1121e7 => (flags, 4) ∷
    row 199 0xf7c7d99943eb => (flags, 0) ∷
    row 200 0x41f7c156c7372f => (flags, 4) ∷
    []) ∷
    -- add
    group 0x8d5 (
    row 201 0x48033583985e34 with (6, 0) with (m1, 0) with (at, 0x70004ddad1fe) => (flags, 0x44) ∷
    row 202 0x033d00000080 with (7, 1) with (m1, 0xffffffff) with (at, 0x6fffa38bf9aa) => (7, 0)
    => (flags, 0x55) ∷
    row 203 0x03351bdff219 with (6, 0xffffffffffffffff) with (m1, 0x7fffffffffffffff)
    with (at, 0x70002337711d) => (6, 0xfffffffe) => (flags, 0x91) ∷
    row 204 0x440335ffffff7f with (14, 0x8000000000000000) with (m1, 1) with (at, 0x70008aa60281)
    => (14, 1) => (flags, 0) ∷
    row 205 0x4c0315391ba568 with (10, 0x7fffffffffffffff) with (m1, 0xffffffff7fffffff)
    with (at, 0x700090556662) => (10, 0x7fffffff7ffffffe) => (flags, 0x11) ∷
    row 206 0x40031d61542610 with (3, 0x80000000) with (m1, 0x80000000) with (at, 0x70003089c058)
    => (3, 0) => (flags, 0x845) ∷
    row 207 0x033dffffff7f with (7, 0x7fffffff) with (m1, 0xffffffffffffffff)
    with (at, 0x7000b4bf64ea) => (7, 0x7ffffffe) => (flags, 0x11) ∷
    row 208 0x48030da5fa7270 with (1, 0xffffffff) with (m1, 0xffffffff80000000)
    with (at, 0x7000953730ad) => (1, 0x7fffffff) => (flags, 5) ∷
    row 209 0x440305635ef871 with (8, 0xffffffff7fffffff) with (m1, 0x7fffffff)
    with (at, 0x7000a26a3dae) => (8, 0xfffffffe) => (flags, 0x890) ∷
    row 210 0x4c033500000080 with (14, 0xffffffff80000000) with (m1, 0x8000000000000000)
    with (at, 0x6fff97c860b6) => (14, 0x7fffffff80000000) => (flags, 0x805) ∷
    row 211 0x033dc616095a with (7, 1) with (m1, 1) with (at, 0x700074d0d10d) => (7, 2)
    => (flags, 0) ∷
    row 212 0x40032dfd71c316 with (5, 0xffffffffffffffff) with (m1, 0xffffffff7fffffff)
    with (at, 0x700050335dff) => (5, 0x7ffffffe) => (flags, 0x11) ∷
    row 213 0x032d00000080 with (5, 0x8000000000000000) with (m1, 0x80000000)
    with (at, 0x6fffb3c0f5e1) => (5, 0x80000000) => (flags, 0x84) ∷
    row 214 0x032d23982a36 with (5, 0x7fffffffffffffff) with (m1, 0xffffffffffffffff)
    with (at, 0x70003fe5700c) => (5, 0xfffffffe) => (flags, 0x91) ∷
    row 215 0x0335ffffff7f with (6, 0x80000000) with (m1, 0xffffffff80000000)
    with (at, 0x7000bb5d9218) => (6, 0) => (flags, 0x845) ∷
    row 216 0x48032500000080 with (4, 0x7fffffff) with (m1, 0x7fffffff) with (at, 0x6fff88a92470)
    => (4, 0xfffffffe) => (flags, 0x10) ∷
    row 217 0x48033db4160e0e with (7, 0xffffffff) with (m1, 0x8000000000000000)
    with (at, 0x70003faba5a2) => (7, 0x80000000ffffffff) => (flags, 0x84) ∷
    row 218 0x0305ffffff7f with (0, 0xffffffff7fffffff) with (m1, 0) with (at, 0x7000b63ad191)
    => (0, 0x7fffffff) => (flags, 4) ∷
    row 219 0x03050dd4862d with (0, 0xffffffff80000000) with (m1, 0xffffffff)
    with (at, 0x70004407c06b) => (0, 0x7fffffff) => (flags, 0x805) ∷
    row 220 0x4c030d44b3e809 with (9, 0) with (m1, 0x7fffffffffffffff) with (at, 0x70001c589296)
    => (9, 0x7fffffffffffffff) => (flags, 4) ∷
    row 221 0x40031d07c96297 with (at, 0x6fffc16a7374) => (3, 0x7021694d) => (flags, 0x805) ∷
    row 222 0x0325be5587d6 with (at, 0x6ffff3cfa36c) => (4, 0xbfb9d5f3) => (flags, 0x95) ∷
    row 223 0x031d6d99a886 with (at, 0x6fffb2da6285) => (3, 0x3d6b1a65) ∷
    row 224 0x4403257241a263 with (at, 0x70007a665e1b) => (12, 0xc8b30ca1) => (flags, 0x90) ∷
    row 225 0x03153ae589dc with (at, 0x6ffff9892d9a) => (2, 0x16430196) => (flags, 0x15) ∷
    row 226 0x0305f56897a4 with (at, 0x6fffe37ab534) => (0, 0x7ce64565) => (flags, 0x815) ∷
    row 227 0x4c032d1032da3a with (at, 0x7000774a5a57) => (13, 0x8ed616ccb4ba91b2) => (flags, 0x894)
    ∷
    row 228 0x032d4ed5e307 with (at, 0x70001d89b1c2) => (5, 0xb9b480cb) => (flags, 0x880) ∷
    row 229 0x031545e46a8e with (at, 0x6fff98ef4d0e) => (2, 0x27c98688) => (flags, 5) ∷
    row 230 0x030d1903bac9 with (at, 0x6fffe4c5d05e) => (1, 0x29eb64d7) => (flags, 0x15) ∷
    row 231 0x0315eb864712 with (at, 0x7000198390d3) => (2, 0x7c76ead7) ∷
    row 232 0x4003252379797c with (at, 0x70008b8e97d7) => (4, 0x34b35331) => (flags, 0x11) ∷
    row 233 0x48031da5f799e4 with (at, 0x70001731034b) => (3, 0x53a2346e3700e244) => (flags, 0x14) ∷
    row 234 0x480335b075f710 with (at, 0x700042b9466f) => (6, 0x19a9cbbb64eebc7a) => (flags, 0x801)
    ∷
    row 235 0x40031dd9a26eb4 with (at, 0x6fffc10410d9) => (3, 0x33f31ab8) => (flags, 4) ∷
    row 236 0x0305343dac49 with (at, 0x70004cbe209b) => (0, 0x450ed24) => (flags, 0x15) ∷
    row 237 0x4c032d464b178d with (at, 0x6fffa24e7c3d) => (13, 0x2d4687cc0e1da45) ∷
    row 238 0x4c032d413d7814 with (at, 0x7000177d93ef) => (13, 0x585526d9658d7804) => (flags, 0x10)
    ∷
    row 239 0x400325a5b8c165 with (at, 0x7000723e0d30) => (4, 0x6ede71eb) => (flags, 0x805) ∷
    row 240 0x031d39ae3bfc with (at, 0x70002dd7d8c8) => (3, 0x3466353a) ∷
    []) ∷
    -- add $
    group 0x8d5 (
    row 241 0x4981c000000000 with (8, 0) => (flags, 0x44) ∷
    row 242 0x81c400000080 with (4, 1) => (4, 0x80000001) => (flags, 0x80) ∷
    row 243 0x81c501000000 with (5, 0xffffffffffffffff) => (5, 0) => (flags, 0x55) ∷
    row 244 0x81c3ffffff7f with (3, 0x8000000000000000) => (3, 0x7fffffff) => (flags, 4) ∷
    row 245 0x81c3ffffffff with (3, 0x7fffffffffffffff) => (3, 0xfffffffe) => (flags, 0x91) ∷
    row 246 0x4881c401000000 with (4, 0x80000000) => (4, 0x80000001) => (flags, 0) ∷
    row 247 0x81c0ffffff7f with (0, 0x7fffffff) => (0, 0xfffffffe) => (flags, 0x890) ∷
    row 248 0x4181c6ffffffff with (14, 0xffffffff) => (14, 0xfffffffe) => (flags, 0x91) ∷
    row 249 0x81c000000000 with (0, 0xffffffff7fffffff) => (0, 0x7fffffff) => (flags, 4) ∷
    row 250 0x81c400000080 with (4, 0xffffffff80000000) => (4, 0) => (flags, 0x845) ∷
    row 251 0x4981c3ffffffff with (11, 1) => (11, 0) => (flags, 0x55) ∷
    row 252 0x4981c400000000 with (12, 0xffffffffffffffff) => (flags, 0x84) ∷
    row 253 0x81c200000080 with (2, 0x8000000000000000) => (2, 0x80000000) => (flags, 0x84) ∷
    row 254 0x81c001000000 with (0, 0x7fffffffffffffff) => (0, 0) => (flags, 0x55) ∷
    row 255 0x4981c7ffffff7f with (15, 0x80000000) => (15, 0xffffffff) => (flags, 4) ∷
    row 256 0x4881c600000080 with (6, 0x7fffffff) => (6, 0xffffffffffffffff) => (flags, 0x84) ∷
    row 257 0x4081c701000000 with (7, 0xffffffff) => (7, 0) => (flags, 0x55) ∷
    row 258 0x81c4ffffff7f with (4, 0xffffffff7fffffff) => (4, 0xfffffffe) => (flags, 0x890) ∷
    row 259 0x81c5ffffffff with (5, 0xffffffff80000000) => (5, 0x7fffffff) => (flags, 0x805) ∷
    row 260 0x4881c300000000 with (3, 0) => (flags, 0x44) ∷
    row 261 0x4081c068fff8f3 => (0, 0x6603f467) => (flags, 0x11) ∷
    row 262 0x81c255be41e2 => (2, 0xadd0d133) => (flags, 0x95) ∷
    row 263 0x4881c157f2f3f4 => (1, 0xecb7d40fcbff3b9d) => (flags, 0x81) ∷
    row 264 0x4081c1113373d5 => (1, 0x3ba4a19b) => (flags, 1) ∷
    row 265 0x4081c267c3a0cf => (2, 0xad35409a) => (flags, 0x85) ∷
    row 266 0x4081c71a578947 => (7, 0x9396d40b) => (flags, 0x880) ∷
    row 267 0x4981c7fd035245 => (15, 0xfaf7bd464a714b) => (flags, 0x14) ∷
    row 268 0x4981c3b53ecb1d => (11, 0xfe9c81ca2098c646) => (flags, 0x80) ∷
    row 269 0x4181c3ea6269cf => (11, 0x503de0f5) => (flags, 0x815) ∷
    row 270 0x4981c7c566b3d1 => (15, 0xaa9a232df0ca1a3) => (flags, 0x15) ∷
    row 271 0x4981c30e9126d8 => (11, 0xee1f7f72e8038483) => (flags, 0x91) ∷
    row 272 0x81c5f8f4d30c => (5, 0xf14d5ba) => (flags, 0) ∷
    row 273 0x81c75e62d994 => (7, 0x54af0e14) => (flags, 0x815) ∷
    row 274 0x4981c7847f26eb => (15, 0xdff0bfac6191f3f2) => (flags, 0x91) ∷
    row 275 0x81c32e4139e3 => (3, 0xcb5e32cd) => (flags, 0x91) ∷
    row 276 0x4081c14d84b021 => (1, 0x2b1d8dff) => (flags, 4) ∷
    row 277 0x4181c2319f4fa5 => (10, 0x480c8242) => (flags, 0x805) ∷
    row 278 0x4181c29d6b4c9c => (10, 0xff2435b2) => (flags, 0x94) ∷
    row 279 0x81c697d4ad47 => (6, 0x31d9da70) => (flags, 0x11) ∷
    row 280 0x4981c19b393455 => (9, 0x40b8b25c0c1286fd) => (flags, 0) ∷
    []) ∷
    -- or
    group 0x8c5 (
    row 281 0x4c0b059834ff29 with (8, 0) with (m1, 0) with (at, 0x70005493a208) => (flags, 0x44) ∷
    row 282 0x480b3500000080 with (6, 1) with (m1, 0xffffffff) with (at, 0x6fff9967b9e7)
    => (6, 0xffffffff) => (flags, 4) ∷
    row 283 0x0b05da9b5617 with (0, 0xffffffffffffffff) with (m1, 0x7fffffffffffffff)
    with (at, 0x70003b3a7a5d) => (0, 0xffffffff) => (flags, 0x84) ∷
    row 284 0x4c0b05ffffff7f with (8, 0x8000000000000000) with (m1, 1) with (at, 0x70008a08db48)
    => (8, 0x8000000000000001) => (flags, 0x80) ∷
    row 285 0x400b0d283d3862 with (1, 0x7fffffffffffffff) with (m1, 0xffffffff7fffffff)
    with (at, 0x70006e0eed5d) => (1, 0xffffffff) => (flags, 0x84) ∷
    row 286 0x440b2d5ff44643 with (13, 0x80000000) with (m1, 0x80000000) with (at, 0x70006c9451a8)
    => (flags, 0x84) ∷
    row 287 0x480b25ffffff7f with (4, 0x7fffffff) with (m1, 0xffffffffffffffff)
    with (at, 0x7000a26ce282) => (4, 0xffffffffffffffff) => (flags, 0x84) ∷
    row 288 0x4c0b2d215eef35 with (13, 0xffffffff) with (m1, 0xffffffff80000000)
    with (at, 0x70006d249e06) => (13, 0xffffffffffffffff) => (flags, 0x84) ∷
    row 289 0x400b251f779f30 with (4, 0xffffffff7fffffff) with (m1, 0x7fffffff)
    with (at, 0x70005845ec8e) => (4, 0x7fffffff) => (flags, 4) ∷
    row 290 0x0b2500000080 with (4, 0xffffffff80000000) with (m1, 0x8000000000000000)
    with (at, 0x6fffb3c0831e) => (4, 0x80000000) => (flags, 0x84) ∷
    row 291 0x0b059ff58d5a with (0, 1) with (m1, 1) with (at, 0x700076115e95) => (flags, 0) ∷
    row 292 0x440b0df51d0f21 with (9, 0xffffffffffffffff) with (m1, 0xffffffff7fffffff)
    with (at, 0x70003ffe44eb) => (9, 0xffffffff) => (flags, 0x84) ∷
    row 293 0x480b1500000080 with (2, 0x8000000000000000) with (m1, 0x80000000)
    with (at, 0x6fffbe03bd1c) => (2, 0x8000000080000000) => (flags, 0x84) ∷
    row 294 0x400b054852303b with (0, 0x7fffffffffffffff) with (m1, 0xffffffffffffffff)
    with (at, 0x700073f17db2) => (0, 0xffffffff) => (flags, 0x84) ∷
    row 295 0x0b05ffffff7f with (0, 0x80000000) with (m1, 0xffffffff80000000)
    with (at, 0x70008f2771dd) => (flags, 0x84) ∷
    row 296 0x480b1500000080 with (2, 0x7fffffff) with (m1, 0x7fffffff) with (at, 0x6fff8136907b)
    => (flags, 4) ∷
    row 297 0x0b15c6b5281b with (2, 0xffffffff) with (m1, 0x8000000000000000)
    with (at, 0x70002a173d04) => (flags, 0x84) ∷
    row 298 0x0b15ffffff7f with (2, 0xffffffff7fffffff) with (m1, 0) with (at, 0x7000b84f5627)
    => (2, 0x7fffffff) => (flags, 4) ∷
    row 299 0x440b3db832fc20 with (15, 0xffffffff80000000) with (m1, 0xffffffff)
    with (at, 0x70005e552ff3) => (15, 0xffffffff) => (flags, 0x84) ∷
    row 300 0x0b3d833b2952 with (7, 0) with (m1, 0x7fffffffffffffff) with (at, 0x70007034b7f6)
    => (7, 0xffffffff) => (flags, 0x84) ∷
    row 301 0x0b2d7bd3b4e0 with (at, 0x6ffffb1ba74f) => (5, 0xef76fbbf) => (flags, 0x80) ∷
    row 302 0x4c0b0de0270145 with (at, 0x7000776c2b3d) => (9, 0x775fdff9db3a7eb7) => (flags, 4) ∷
    row 303 0x0b0d43679c17 with (at, 0x70003db4724e) => (1, 0xfb7bf396) => (flags, 0x84) ∷
    row 304 0x0b2502e265ee with (at, 0x700023d3cce3) => (4, 0xdfb09efa) => (flags, 0x84) ∷
    row 305 0x0b255d8e05fa with (at, 0x70001a72313c) => (4, 0xfdc47f9f) => (flags, 0x84) ∷
    row 306 0x0b3d76c9ae66 with (at, 0x70008dc2fc7a) => (7, 0xd5f9a45b) => (flags, 0x80) ∷
    row 307 0x480b0dac3d587c with (at, 0x700085bcd8fd) => (1, 0xefdd7b36f7daf75f) => (flags, 0x84) ∷
    row 308 0x480b253b9a3174 with (at, 0x70007b8f75ff) => (4, 0xff3bffdbbae59bfe) => (flags, 0x80) ∷
    row 309 0x400b05e40c470b with (at, 0x70002c470143) => (0, 0xf8b9f79e) => (flags, 0x80) ∷
    row 310 0x0b257172fd89 with (at, 0x6fffa0485791) => (4, 0x96ffeffd) => (flags, 0x80) ∷
    row 311 0x400b35c4b13942 with (at, 0x700069785fce) => (6, 0x87ff7a7f) ∷
    row 312 0x480b1d941cf852 with (at, 0x700066d36bae) => (3, 0x7ef7bddffb687d3e) => (flags, 0) ∷
    row 313 0x440b0d4f7fab82 with (at, 0x6fff9ecc47a1) => (9, 0x27ffbf25) => (flags, 0) ∷
    row 314 0x4c0b05d0f46d39 with (at, 0x7000397d0e81) => (8, 0xfbefb5b32efefc97) => (flags, 0x80) ∷
    row 315 0x4c0b3d1f9c4484 with (at, 0x6fffc3eadf57) => (15, 0xfbb5ffbff7f77bf9) => (flags, 0x84)
    ∷
    row 316 0x0b2d65d2827d with (at, 0x700098691749) => (5, 0xf2f8faf6) => (flags, 0x84) ∷
    row 317 0x4c0b1559019502 with (at, 0x700014642013) => (10, 0xffdbeadfedf397ff) => (flags, 0x84)
    ∷
    row 318 0x0b3595c33712 with (at, 0x70003698944a) => (6, 0xfd97ddc7) => (flags, 0x80) ∷
    row 319 0x0b0d6a99f637 with (at, 0x70004a91f442) => (1, 0x9ff7fc6b) => (flags, 0x80) ∷
    row 320 0x0b3575d353ad with (at, 0x6fffc9d29098) => (6, 0x7efeff76) => (flags, 0) ∷
    []) ∷
    -- or $
    group 0x8c5 (
    row 321 0x81ce00000000 with (6, 0) => (flags, 0x44) ∷
    row 322 0x4881ce00000080 with (6, 1) => (6, 0xffffffff80000001) => (flags, 0x80) ∷
    row 323 0x81ca01000000 with (2, 0xffffffffffffffff) => (2, 0xffffffff) => (flags, 0x84) ∷
    row 324 0x4081c9ffffff7f with (1, 0x8000000000000000) => (1, 0x7fffffff) => (flags, 4) ∷
    row 325 0x81ceffffffff with (6, 0x7fffffffffffffff) => (6, 0xffffffff) => (flags, 0x84) ∷
    row 326 0x4181cf01000000 with (15, 0x80000000) => (15, 0x80000001) => (flags, 0x80) ∷
    row 327 0x81ceffffff7f with (6, 0x7fffffff) => (flags, 4) ∷
    row 328 0x81ccffffffff with (4, 0xffffffff) => (flags, 0x84) ∷
    row 329 0x81cc00000000 with (4, 0xffffffff7fffffff) => (4, 0x7fffffff) => (flags, 4) ∷
    row 330 0x81c800000080 with (0, 0xffffffff80000000) => (0, 0x80000000) => (flags, 0x84) ∷
    row 331 0x4881c9ffffffff with (1, 1) => (1, 0xffffffffffffffff) => (flags, 0x84) ∷
    row 332 0x4881ce00000000 with (6, 0xffffffffffffffff) => (flags, 0x84) ∷
    row 333 0x81cc00000080 with (4, 0x8000000000000000) => (4, 0x80000000) => (flags, 0x84) ∷
    row 334 0x81cc01000000 with (4, 0x7fffffffffffffff) => (4, 0xffffffff) => (flags, 0x84) ∷
    row 335 0x4981ccffffff7f with (12, 0x80000000) => (12, 0xffffffff) => (flags, 4) ∷
    row 336 0x81cf00000080 with (7, 0x7fffffff) => (7, 0xffffffff) => (flags, 0x84) ∷
    row 337 0x81ca01000000 with (2, 0xffffffff) => (flags, 0x84) ∷
    row 338 0x81cdffffff7f with (5, 0xffffffff7fffffff) => (5, 0x7fffffff) => (flags, 4) ∷
    row 339 0x81c8ffffffff with (0, 0xffffffff80000000) => (0, 0xffffffff) => (flags, 0x84) ∷
    row 340 0x4881c900000000 with (1, 0) ∷
    row 341 0x81cde2ac59df => (5, 0xdf7dacef) => (flags, 0x80) ∷
    row 342 0x4981ce3a64153b => (14, 0xca679d7ebb957cbf) => (flags, 0x80) ∷
    row 343 0x81c910b391cd => (1, 0xffb3b351) => (flags, 0x80) ∷
    row 344 0x4881cd2205ffe1 => (5, 0xffffffffe9ff9fba) => (flags, 0x80) ∷
    row 345 0x4981c89d1717ba => (8, 0xffffffffffff37fd) => (flags, 0x80) ∷
    row 346 0x81ca2e3d72cd => (2, 0xddff3f2f) => (flags, 0x80) ∷
    row 347 0x81cd9bb0fb31 => (5, 0x7dfbbadb) => (flags, 4) ∷
    row 348 0x81c8b60516f5 => (0, 0xfdf70df7) => (flags, 0x80) ∷
    row 349 0x4981c994c1481a => (9, 0x3830c3941bfdefbc) => (flags, 0) ∷
    row 350 0x81ca1eeebb35 => (2, 0xf7fbee5e) => (flags, 0x80) ∷
    row 351 0x4981cb2c9ca037 => (11, 0x95c34743ffa0df2d) => (flags, 0x84) ∷
    row 352 0x4881cd29a3f5aa => (5, 0xffffffffafffa77b) => (flags, 0x84) ∷
    row 353 0x81ca884b99c1 => (2, 0xcb995fae) => (flags, 0x80) ∷
    row 354 0x81ca06d21904 => (2, 0xce7dfb17) => (flags, 0x84) ∷
    row 355 0x81cf33013a2a => (7, 0x3a7e8f33) => (flags, 4) ∷
    row 356 0x81ce747a8cd2 => (6, 0xfbecfe74) => (flags, 0x84) ∷
    row 357 0x4081cdf6c8b497 => (5, 0x97ffc8f6) => (flags, 0x84) ∷
    row 358 0x4881cbbcaf8775 => (3, 0xdaa70a7dffcfefbe) => (flags, 0x84) ∷
    row 359 0x4981c8b70868e1 => (8, 0xfffffffffb6ffff7) => (flags, 0x80) ∷
    row 360 0x4881cd9282a769 => (5, 0xaf8373b1f9a7be9f) => (flags, 0x84) ∷
    []) ∷
    -- adc
    group 0x8d5 (
    row 361 0x44132d2378bf1b with (13, 0) with (m1, 0) with (at, 0x70005487ef51) => (13, 1)
    => (flags, 0) ∷
    row 362 0x131500000080 with (2, 1) with (m1, 0xffffffff) with (at, 0x6fff8c5f4fe9)
    => (flags, 0x11) ∷
    row 363 0x1315fc348579 with (2, 0xffffffffffffffff) with (m1, 0x7fffffffffffffff)
    with (at, 0x7000b52435c8) => (2, 0xfffffffe) => (flags, 0x91) ∷
    row 364 0x1305ffffff7f with (0, 0x8000000000000000) with (m1, 1) with (at, 0x7000868789d6)
    => (0, 1) => (flags, 0) ∷
    row 365 0x4c1305e33bdb02 with (8, 0x7fffffffffffffff) with (m1, 0xffffffff7fffffff)
    with (at, 0x70002ff426ed) => (8, 0x7fffffff7ffffffe) => (flags, 0x11) ∷
    row 366 0x4c1335b073ec16 with (14, 0x80000000) with (m1, 0x80000000) with (at, 0x7000463f9813)
    => (14, 0x100000001) => (flags, 0) ∷
    row 367 0x1335ffffff7f with (6, 0x7fffffff) with (m1, 0xffffffffffffffff)
    with (at, 0x70008d3635e1) => (flags, 0x15) ∷
    row 368 0x401315353c5306 with (2, 0xffffffff) with (m1, 0xffffffff80000000)
    with (at, 0x70000d155bc0) => (2, 0x80000000) => (flags, 0x95) ∷
    row 369 0x481315d9d86903 with (2, 0xffffffff7fffffff) with (m1, 0x7fffffff)
    with (at, 0x70001f60ba33) => (2, 0xfffffffffffffffe) => (flags, 0x90) ∷
    row 370 0x44130500000080 with (8, 0xffffffff80000000) with (m1, 0x8000000000000000)
    with (at, 0x6fff8cd47b50) => (8, 0x80000000) => (flags, 0x84) ∷
    row 371 0x441305ae717711 with (8, 1) with (m1, 1) with (at, 0x70002ad25f1c) => (8, 3)
    => (flags, 4) ∷
    row 372 0x1335acd1c73c with (6, 0xffffffffffffffff) with (m1, 0xffffffff7fffffff)
    with (at, 0x70003e52095e) => (6, 0x7ffffffe) => (flags, 0x11) ∷
    row 373 0x40130d00000080 with (1, 0x8000000000000000) with (m1, 0x80000000)
    with (at, 0x6fff85625a1f) => (1, 0x80000000) => (flags, 0x84) ∷
    row 374 0x13152b93785e with (2, 0x7fffffffffffffff) with (m1, 0xffffffffffffffff)
    with (at, 0x7000835be7dc) => (2, 0xffffffff) => (flags, 0x95) ∷
    row 375 0x401335ffffff7f with (6, 0x80000000) with (m1, 0xffffffff80000000)
    with (at, 0x7000a00d276b) => (6, 1) => (flags, 0x801) ∷
    row 376 0x130d00000080 with (1, 0x7fffffff) with (m1, 0x7fffffff) with (at, 0x6fffb6dfd24d)
    => (1, 0xffffffff) => (flags, 0x894) ∷
    row 377 0x4c1305b5704409 with (8, 0xffffffff) with (m1, 0x8000000000000000)
    with (at, 0x7000329fc60c) => (8, 0x80000000ffffffff) => (flags, 0x84) ∷
    row 378 0x481325ffffff7f with (4, 0xffffffff7fffffff) with (m1, 0) with (at, 0x7000b77fb087)
    => (flags, 0x84) ∷
    row 379 0x48132d1131f469 with (5, 0xffffffff80000000) with (m1, 0xffffffff)
    with (at, 0x70008b4114f1) => (5, 0x7fffffff) => (flags, 5) ∷
    row 380 0x4813052ef3b05c with (0, 0) with (m1, 0x7fffffffffffffff) with (at, 0x70008373e28c)
    => (0, 0x7fffffffffffffff) => (flags, 4) ∷
    row 381 0x130db1568d7c with (at, 0x7000846f29b5) => (1, 0xd0d9e4ad) => (flags, 0x91) ∷
    row 382 0x130d6684106a with (at, 0x70006eba1337) => (1, 0x12cc477) => (flags, 0x15) ∷
    row 383 0x130d2f926a94 with (at, 0x6fffb184b4f5) => (1, 0xe8d15491) => (flags, 0x90) ∷
    row 384 0x131dbff4a085 with (at, 0x6fff96d483a1) => (3, 0x789d8c12) => (flags, 0x815) ∷
    row 385 0x132d839aa2d9 with (at, 0x6ffffa986da8) => (5, 0xf90585e7) => (flags, 0x94) ∷
    row 386 0x132d5b2b8228 with (at, 0x700034e31aeb) => (5, 0xe20dca4c) => (flags, 0x880) ∷
    row 387 0x4c130ddd89c564 with (at, 0x7000783a6e00) => (9, 0x7f0f9548cba8c086) => (flags, 0x10) ∷
    row 388 0x401335edd3257e with (at, 0x7000b45784c9) => (6, 0x600d03bf) => (flags, 0x801) ∷
    row 389 0x130d1ec8e113 with (at, 0x700048791dd9) => (1, 0x60602b9d) => (flags, 1) ∷
    row 390 0x4c133d61a009cd with (at, 0x6fffdbaf7325) => (15, 0xe008b917942dc9df) => (flags, 0x880)
    ∷
    row 391 0x44131d392ef887 with (at, 0x6fff8c55562c) => (11, 0xcc42f164) => (flags, 0x890) ∷
    row 392 0x130d397cd4a8 with (at, 0x6fffbe91d181) => (1, 0x46f66346) => (flags, 0x11) ∷
    row 393 0x1325617b53c4 with (at, 0x6fffc719d626) => (4, 0xcd69e160) => (flags, 0x94) ∷
    row 394 0x481305615738d7 with (at, 0x6fffe2b08fcc) => (0, 0xa5177e2b8625af6a) => (flags, 0x894)
    ∷
    row 395 0x131dc72cae38 with (at, 0x700068811afd) => (3, 0xc722475f) => (flags, 0x884) ∷
    row 396 0x4c130568e99eb5 with (at, 0x6fffe5756592) => (8, 0x7f3c88171bd69d98) => (flags, 0x10) ∷
    row 397 0x4c132dd37cd9f3 with (at, 0x6fffff5c5f18) => (13, 0x241167f8570cb00f) => (flags, 4) ∷
    row 398 0x130540662ab6 with (at, 0x6fffb90286c6) => (0, 0xf4847d00) => (flags, 0x94) ∷
    row 399 0x13050b16021c with (at, 0x700031d84cfa) => (0, 0xda68692b) => (flags, 0x94) ∷
    row 400 0x40132de6684cf1 with (at, 0x6ffff5c98e66) => (5, 0xd102d815) => (flags, 0x91) ∷
    []) ∷
    -- adc $
    group 0x8d5 (
    row 401 0x81d600000000 with (6, 0) => (6, 1) => (flags, 0) ∷
    row 402 0x4081d700000080 with (7, 1) => (7, 0x80000002) => (flags, 0x80) ∷
    row 403 0x4181d301000000 with (11, 0xffffffffffffffff) => (11, 1) => (flags, 0x11) ∷
    row 404 0x81d1ffffff7f with (1, 0x8000000000000000) => (1, 0x80000000) => (flags, 0x894) ∷
    row 405 0x81d4ffffffff with (4, 0x7fffffffffffffff) => (4, 0xffffffff) => (flags, 0x95) ∷
    row 406 0x4181d101000000 with (9, 0x80000000) => (9, 0x80000002) => (flags, 0x80) ∷
    row 407 0x4081d2ffffff7f with (2, 0x7fffffff) => (2, 0xfffffffe) => (flags, 0x890) ∷
    row 408 0x81d7ffffffff with (7, 0xffffffff) => (flags, 0x95) ∷
    row 409 0x4881d700000000 with (7, 0xffffffff7fffffff) => (flags, 0x84) ∷
    row 410 0x4181d700000080 with (15, 0xffffffff80000000) => (15, 1) => (flags, 0x801) ∷
    row 411 0x81d5ffffffff with (5, 1) => (flags, 0x11) ∷
    row 412 0x4181d600000000 with (14, 0xffffffffffffffff) => (14, 0) => (flags, 0x55) ∷
    row 413 0x81d500000080 with (5, 0x8000000000000000) => (5, 0x80000001) => (flags, 0x80) ∷
    row 414 0x81d001000000 with (0, 0x7fffffffffffffff) => (0, 0) => (flags, 0x55) ∷
    row 415 0x4181d4ffffff7f with (12, 0x80000000) => (12, 0) => (flags, 0x55) ∷
    row 416 0x81d000000080 with (0, 0x7fffffff) => (0, 0) => (flags, 0x55) ∷
    row 417 0x81d301000000 with (3, 0xffffffff) => (3, 1) => (flags, 0x11) ∷
    row 418 0x81d3ffffff7f with (3, 0xffffffff7fffffff) => (3, 0xfffffffe) => (flags, 0x890) ∷
    row 419 0x81d4ffffffff with (4, 0xffffffff80000000) => (4, 0x80000000) => (flags, 0x95) ∷
    row 420 0x4181d000000000 with (8, 0) => (flags, 0x44) ∷
    row 421 0x81d113d5817a => (1, 0x789510) => (flags, 0x11) ∷
    row 422 0x81d7998b6731 => (7, 0xa0706ad0) => (flags, 0x890) ∷
    row 423 0x81d4fc476985 => (4, 0x6897620f) => (flags, 0x805) ∷
    row 424 0x81d084c6a05a => (0, 0x5019a3a3) => (flags, 0x15) ∷
    row 425 0x4981d02232fce8 => (8, 0xc3916efca0256845) => (flags, 0x81) ∷
    row 426 0x81d378b86fa0 => (3, 0x52b20b89) => (flags, 0x801) ∷
    row 427 0x4181d0f0b73cf8 => (8, 0x2b0fde49) => (flags, 1) ∷
    row 428 0x81d4ecf7e8ff => (4, 0xa9f09d40) => (flags, 0x91) ∷
    row 429 0x4081d6c09eb53d => (6, 0x36222e3c) => (flags, 5) ∷
    row 430 0x4881d166a691ce => (1, 0x753f977c647ec572) => (flags, 0x15) ∷
    row 431 0x81d62087ee98 => (6, 0xedd24ab) => (flags, 1) ∷
    row 432 0x4981d3b3d71ca4 => (11, 0xce82589104e5d7d4) => (flags, 0x85) ∷
    row 433 0x4981d761593821 => (15, 0x4f215987a279bdda) => (flags, 0) ∷
    row 434 0x4181d3b322c134 => (11, 0xdd95da41) => (flags, 0x94) ∷
    row 435 0x81d65b8980eb => (6, 0xa85d64dc) => (flags, 0x81) ∷
    row 436 0x81d4bd5fada1 => (4, 0x8e903240) => (flags, 0x91) ∷
    row 437 0x4981d7b21c0dd9 => (15, 0x7a0df5b835673ec1) => (flags, 0x11) ∷
    row 438 0x4081d65a3abacb => (6, 0x8036a1f0) => (flags, 0x95) ∷
    row 439 0x4881d425508872 => (4, 0x19ab03b20df4221) => (flags, 0x14) ∷
    row 440 0x4081d0026014e2 => (0, 0xa6596175) => (flags, 0x81) ∷
    []) ∷
    -- sbb
    group 0x8d5 (
    row 441 0x401b2d237ea221 with (5, 0) with (m1, 0) with (at, 0x700025bad4d7) => (flags, 0x44) ∷
    row 442 0x481b3d00000080 with (7, 1) with (m1, 0xffffffff) with (at, 0x6fffbc72bbb6)
    => (7, 0xffffffff00000002) => (flags, 0x91) ∷
    row 443 0x1b1ddf53762f with (3, 0xffffffffffffffff) with (m1, 0x7fffffffffffffff)
    with (at, 0x70003fec4cbd) => (3, 0xffffffff) => (flags, 0x95) ∷
    row 444 0x1b05ffffff7f with (0, 0x8000000000000000) with (m1, 1) with (at, 0x700080220e2d)
    => (0, 0xfffffffe) => (flags, 0x91) ∷
    row 445 0x481b0528148025 with (0, 0x7fffffffffffffff) with (m1, 0xffffffff7fffffff)
    with (at, 0x700030f70fcf) => (0, 0x8000000080000000) => (flags, 0x885) ∷
    row 446 0x1b356634d476 with (6, 0x80000000) with (m1, 0x80000000) with (at, 0x7000a948f5aa)
    => (6, 0xffffffff) => (flags, 0x95) ∷
    row 447 0x481b05ffffff7f with (0, 0x7fffffff) with (m1, 0xffffffffffffffff)
    with (at, 0x7000b51b5f0a) => (flags, 0x15) ∷
    row 448 0x401b0d36d8b046 with (1, 0xffffffff) with (m1, 0xffffffff80000000)
    with (at, 0x70005a1bad2f) => (1, 0x7fffffff) => (flags, 4) ∷
    row 449 0x1b1dd11bd068 with (3, 0xffffffff7fffffff) with (m1, 0x7fffffff)
    with (at, 0x700076333ede) => (3, 0xffffffff) => (flags, 0x95) ∷
    row 450 0x441b3d00000080 with (15, 0xffffffff80000000) with (m1, 0x8000000000000000)
    with (at, 0x6fffa3044949) => (15, 0x7fffffff) => (flags, 0x814) ∷
    row 451 0x401b3d2d39c63d with (7, 1) with (m1, 1) with (at, 0x7000521480da) => (7, 0)
    => (flags, 0x44) ∷
    row 452 0x1b05acfc3d61 with (0, 0xffffffffffffffff) with (m1, 0xffffffff7fffffff)
    with (at, 0x7000827f1ae2) => (0, 0x80000000) => (flags, 0x84) ∷
    row 453 0x1b3500000080 with (6, 0x8000000000000000) with (m1, 0x80000000)
    with (at, 0x6fff89dccce8) => (6, 0x80000000) => (flags, 0x885) ∷
    row 454 0x4c1b1d3d3ae177 with (11, 0x7fffffffffffffff) with (m1, 0xffffffffffffffff)
    with (at, 0x700086028dff) => (11, 0x8000000000000000) => (flags, 0x885) ∷
    row 455 0x481b1dffffff7f with (3, 0x80000000) with (m1, 0xffffffff80000000)
    with (at, 0x7000ae0eb2c1) => (3, 0xffffffff) => (flags, 0x15) ∷
    row 456 0x401b1500000080 with (2, 0x7fffffff) with (m1, 0x7fffffff) with (at, 0x6fffa9a4e9ea)
    => (2, 0) => (flags, 0x44) ∷
    row 457 0x1b2d2f719c38 with (5, 0xffffffff) with (m1, 0x8000000000000000)
    with (at, 0x700039806a67) => (5, 0xfffffffe) => (flags, 0x80) ∷
    row 458 0x4c1b3dffffff7f with (15, 0xffffffff7fffffff) with (m1, 0) with (at, 0x7000b3cbe0ae)
    => (15, 0xffffffff7ffffffe) => (flags, 0x80) ∷
    row 459 0x4c1b2526b1e064 with (12, 0xffffffff80000000) with (m1, 0xffffffff)
    with (at, 0x7000673d5172) => (12, 0xfffffffe80000001) => (flags, 0x90) ∷
    row 460 0x4c1b15dc328a55 with (10, 0) with (m1, 0x7fffffffffffffff) with (at, 0x700082206aed)
    => (10, 0x8000000000000001) => (flags, 0x91) ∷
    row 461 0x401b3572822eaf with (at, 0x6fffe1a72a6f) => (6, 0xecc2103c) => (flags, 0x95) ∷
    row 462 0x1b3df373ef2c with (at, 0x700040f36402) => (7, 0xe59c5545) => (flags, 0x81) ∷
    row 463 0x4c1b35956abfee with (at, 0x6ffffff77adf) => (14, 0xe937ef507befa2ca) => (flags, 0x85)
    ∷
    row 464 0x401b05edf733fc with (at, 0x700026490099) => (0, 0x715b612e) => (flags, 0x814) ∷
    row 465 0x1b052ff91bf0 with (at, 0x70000eb6d263) => (0, 0x68206749) => (flags, 0x11) ∷
    row 466 0x1b15533af32d with (at, 0x70005cbcbc37) => (2, 0xc585d7a2) => (flags, 0x81) ∷
    row 467 0x401b2d9b590f47 with (at, 0x700061b05c58) => (5, 0x388138c6) => (flags, 4) ∷
    row 468 0x401b3d7c9a3d8b with (at, 0x6fffad5ef638) => (7, 0x2e442d53) => (flags, 0x15) ∷
    row 469 0x441b15b3494ce1 with (at, 0x6fffe696d695) => (10, 0xdca6aea6) => (flags, 0x85) ∷
    row 470 0x4c1b150c300a4a with (at, 0x70004e26c63b) => (10, 0xb692d57878004d31) => (flags, 0x881)
    ∷
    row 471 0x441b3513feb950 with (at, 0x70006f5175b7) => (14, 0x3231b226) => (flags, 0) ∷
    row 472 0x1b35b9256846 with (at, 0x70005b2356f8) => (6, 0x2bdadb09) => (flags, 4) ∷
    row 473 0x1b1541db9bf3 with (at, 0x70001a239e43) => (2, 0x4ec3e24) => (flags, 4) ∷
    row 474 0x481b257ccc5e3c with (at, 0x7000505bf969) => (4, 0xf8d88601b9efc53) => (flags, 0x14) ∷
    row 475 0x1b15c4dcd644 with (at, 0x700061f24bc2) => (2, 0xcde4edb7) => (flags, 0x94) ∷
    row 476 0x1b053af8b658 with (at, 0x70005a998171) => (0, 0x297aa5c) => (flags, 0x14) ∷
    row 477 0x441b2d9745e709 with (at, 0x70000c39c12f) => (13, 0x66d50d80) => (flags, 0x800) ∷
    row 478 0x4c1b25e3a48047 with (at, 0x700065ebeb03) => (12, 0xeab4f440b34ea93c) => (flags, 0x95)
    ∷
    row 479 0x1b2de669d8ab with (at, 0x6fffc20552b3) => (5, 0xa539149d) => (flags, 0x91) ∷
    row 480 0x481b0db38c19de with (at, 0x700007b0f057) => (1, 0xda7beb486543c5de) => (flags, 0x95) ∷
    []) ∷
    -- sbb $
    group 0x8d5 (
    row 481 0x4981de00000000 with (14, 0) => (flags, 0x44) ∷
    row 482 0x4881df00000080 with (7, 1) => (7, 0x80000000) => (flags, 5) ∷
    row 483 0x81da01000000 with (2, 0xffffffffffffffff) => (2, 0xfffffffe) => (flags, 0x80) ∷
    row 484 0x81daffffff7f with (2, 0x8000000000000000) => (2, 0x80000000) => (flags, 0x95) ∷
    row 485 0x4881ddffffffff with (5, 0x7fffffffffffffff) => (5, 0x8000000000000000)
    => (flags, 0x885) ∷
    row 486 0x81d801000000 with (0, 0x80000000) => (0, 0x7ffffffe) => (flags, 0x810) ∷
    row 487 0x4881daffffff7f with (2, 0x7fffffff) => (2, 0) => (flags, 0x44) ∷
    row 488 0x4081deffffffff with (6, 0xffffffff) => (6, 0) => (flags, 0x44) ∷
    row 489 0x81dd00000000 with (5, 0xffffffff7fffffff) => (5, 0x7ffffffe) => (flags, 0) ∷
    row 490 0x81d900000080 with (1, 0xffffffff80000000) => (1, 0) => (flags, 0x44) ∷
    row 491 0x81dcffffffff with (4, 1) => (4, 2) => (flags, 0x11) ∷
    row 492 0x4181d800000000 with (8, 0xffffffffffffffff) => (8, 0xfffffffe) => (flags, 0x80) ∷
    row 493 0x81d900000080 with (1, 0x8000000000000000) => (1, 0x80000000) => (flags, 0x885) ∷
    row 494 0x4881dc01000000 with (4, 0x7fffffffffffffff) => (4, 0x7ffffffffffffffd) => (flags, 0) ∷
    row 495 0x4981daffffff7f with (10, 0x80000000) => (10, 1) => (flags, 0x10) ∷
    row 496 0x81db00000080 with (3, 0x7fffffff) => (3, 0xfffffffe) => (flags, 0x881) ∷
    row 497 0x81dc01000000 with (4, 0xffffffff) => (4, 0xfffffffe) => (flags, 0x80) ∷
    row 498 0x4081ddffffff7f with (5, 0xffffffff7fffffff) => (5, 0xffffffff) => (flags, 0x95) ∷
    row 499 0x4081dcffffffff with (4, 0xffffffff80000000) => (4, 0x80000000) => (flags, 0x95) ∷
    row 500 0x4081dd00000000 with (5, 0) => (flags, 0x44) ∷
    row 501 0x4081db8661300d => (3, 0xe72d0833) => (flags, 0x84) ∷
    row 502 0x81d9961aa418 => (1, 0xc3a1c3d) => (flags, 0x10) ∷
    row 503 0x81dbaf7e7d35 => (3, 0x2359a20) => (flags, 0) ∷
    row 504 0x4181db7a583eb4 => (11, 0x14403575) => (flags, 0) ∷
    row 505 0x4081d84454d688 => (0, 0xf14ec095) => (flags, 0x885) ∷
    row 506 0x4981d981f6655a => (9, 0xbe821667937d4544) => (flags, 0x84) ∷
    row 507 0x4981dceaf96c0d => (12, 0x94cf854019f50eaf) => (flags, 0x94) ∷
    row 508 0x81dce861c878 => (4, 0xf94ec108) => (flags, 0x91) ∷
    row 509 0x81df74e01524 => (7, 0x95b68993) => (flags, 0x84) ∷
    row 510 0x4881df0e6b1241 => (7, 0xeda8eba2e545cf0b) => (flags, 0x90) ∷
    row 511 0x81d9da0faab0 => (1, 0x7fa0ddc) => (flags, 0x10) ∷
    row 512 0x4981dec2bff86d => (14, 0xfca41dc4c44d8610) => (flags, 0x80) ∷
    row 513 0x4081dad997de4b => (2, 0x2f3d1747) => (flags, 0x14) ∷
    row 514 0x81da1124c4bc => (2, 0x473c6f85) => (flags, 1) ∷
    row 515 0x81de3b61141d => (6, 0x327a54e2) => (flags, 4) ∷
    row 516 0x4181dce94499b3 => (12, 0x9b2ef512) => (flags, 0x885) ∷
    row 517 0x4181da17b9dd7d => (10, 0xf9efacb1) => (flags, 0x85) ∷
    row 518 0x81d95792c518 => (1, 0x1fbd15c5) => (flags, 4) ∷
    row 519 0x4881df4301af71 => (7, 0x47e6ffa52241885c) => (flags, 0x14) ∷
    row 520 0x4981de3d91c48b => (14, 0xd75e6abba9390c66) => (flags, 0x95) ∷
    []) ∷
    -- and
    group 0x8c5 (
    row 521 0x442315b6f58a0a with (10, 0) with (m1, 0) with (at, 0x7000170f01b8) => (flags, 0x44) ∷
    row 522 0x230d00000080 with (1, 1) with (m1, 0xffffffff) with (at, 0x6fffa9a1fd48) => (flags, 0)
    ∷
    row 523 0x4823354f16cc0e with (6, 0xffffffffffffffff) with (m1, 0x7fffffffffffffff)
    with (at, 0x70003134dd07) => (6, 0x7fffffffffffffff) => (flags, 4) ∷
    row 524 0x2305ffffff7f with (0, 0x8000000000000000) with (m1, 1) with (at, 0x7000b6d8684c)
    => (0, 0) => (flags, 0x44) ∷
    row 525 0x232d9cb9090a with (5, 0x7fffffffffffffff) with (m1, 0xffffffff7fffffff)
    with (at, 0x700030fa9ba6) => (5, 0x7fffffff) => (flags, 4) ∷
    row 526 0x2335a611e10f with (6, 0x80000000) with (m1, 0x80000000) with (at, 0x700042934595)
    => (flags, 0x84) ∷
    row 527 0x48233dffffff7f with (7, 0x7fffffff) with (m1, 0xffffffffffffffff)
    with (at, 0x70009a1c5dfb) => (flags, 4) ∷
    row 528 0x2315213bf77f with (2, 0xffffffff) with (m1, 0xffffffff80000000)
    with (at, 0x70009d269b4f) => (2, 0x80000000) ∷
    row 529 0x4c231d853d204c with (11, 0xffffffff7fffffff) with (m1, 0x7fffffff)
    with (at, 0x7000880b780e) => (11, 0x7fffffff) => (flags, 4) ∷
    row 530 0x230d00000080 with (1, 0xffffffff80000000) with (m1, 0x8000000000000000)
    with (at, 0x6fffb64fed0a) => (1, 0) => (flags, 0x44) ∷
    row 531 0x482315c3bd0909 with (2, 1) with (m1, 1) with (at, 0x700015673577) => (flags, 0) ∷
    row 532 0x4023050bd6664b with (0, 0xffffffffffffffff) with (m1, 0xffffffff7fffffff)
    with (at, 0x7000897ab08f) => (0, 0x7fffffff) => (flags, 4) ∷
    row 533 0x48233d00000080 with (7, 0x8000000000000000) with (m1, 0x80000000)
    with (at, 0x6fff8b73157b) => (7, 0) => (flags, 0x44) ∷
    row 534 0x2335aeb9417b with (6, 0x7fffffffffffffff) with (m1, 0xffffffffffffffff)
    with (at, 0x7000afbce247) => (6, 0xffffffff) => (flags, 0x84) ∷
    row 535 0x232dffffff7f with (5, 0x80000000) with (m1, 0xffffffff80000000)
    with (at, 0x7000b92c13de) => (flags, 0x84) ∷
    row 536 0x4c231d00000080 with (11, 0x7fffffff) with (m1, 0x7fffffff) with (at, 0x6fff9985d74d)
    => (flags, 4) ∷
    row 537 0x4423254c1acb47 with (12, 0xffffffff) with (m1, 0x8000000000000000)
    with (at, 0x70005d538d2e) => (12, 0) => (flags, 0x44) ∷
    row 538 0x232dffffff7f with (5, 0xffffffff7fffffff) with (m1, 0) with (at, 0x7000ad33e69c)
    => (5, 0) => (flags, 0x44) ∷
    row 539 0x442305fc7f2404 with (8, 0xffffffff80000000) with (m1, 0xffffffff)
    with (at, 0x700024acb27d) => (8, 0x80000000) ∷
    row 540 0x232dbc3c8754 with (5, 0) with (m1, 0x7fffffffffffffff) with (at, 0x7000840c9346)
    => (flags, 0x44) ∷
    row 541 0x232d2c0489c3 with (at, 0x6fffddb456e8) => (5, 0x4004242) => (flags, 4) ∷
    row 542 0x4423357a32d109 with (at, 0x70002a4b5990) => (14, 0xc0007140) => (flags, 0x80) ∷
    row 543 0x40230575264d47 with (at, 0x700049befa0b) => (0, 0x4601806b) => (flags, 0) ∷
    row 544 0x482325f802becf with (at, 0x6fffcfd05b35) => (4, 0x8d050400281a2142) => (flags, 0x84) ∷
    row 545 0x232555b8428e with (at, 0x6fffa79e6d60) => (4, 0x46e01800) => (flags, 4) ∷
    row 546 0x230588c8f536 with (at, 0x70004543b289) => (0, 0x710001) => (flags, 0) ∷
    row 547 0x40231529d42845 with (at, 0x70006411cb48) => (2, 0x4821480) => (flags, 0) ∷
    row 548 0x231d24978eac with (at, 0x6fffb7bb7387) => (3, 0x84334066) => (flags, 0x84) ∷
    row 549 0x2325c8d3ebe9 with (at, 0x6ffffd056d96) => (4, 0x22b91061) => (flags, 0) ∷
    row 550 0x4c231559c7c599 with (at, 0x6fffd074f6bb) => (10, 0x441102cafb202420) => (flags, 0) ∷
    row 551 0x231dfb830bbc with (at, 0x6ffff1f92117) => (3, 0xe302ae1) => (flags, 4) ∷
    row 552 0x230559a7e24a with (at, 0x70005bb78a56) => (0, 0x82684150) => (flags, 0x84) ∷
    row 553 0x231d807ed8c5 with (at, 0x6fffcd3d7f86) => (3, 0xa4800) => (flags, 4) ∷
    row 554 0x231d7cb636e0 with (at, 0x6ffff9d4adb2) => (3, 0x90140cc0) => (flags, 0x84) ∷
    row 555 0x2335922cf426 with (at, 0x70002e73f220) => (6, 0x82c20188) => (flags, 0x84) ∷
    row 556 0x23155143885a with (at, 0x70006b92af5d) => (2, 0x20810a) => (flags, 4) ∷
    row 557 0x231511f08933 with (at, 0x700069c7dac3) => (2, 0xb820a000) ∷
    row 558 0x4423057fd6c622 with (at, 0x700059e11800) => (8, 0x2014082d) => (flags, 4) ∷
    row 559 0x482335fd2649c6 with (at, 0x6fffd9e89772) => (6, 0x1a05108a41200500) => (flags, 4) ∷
    row 560 0x40230db2a3ffc8 with (at, 0x6fffd4cd1b43) => (1, 0x25640800) => (flags, 4) ∷
    []) ∷
    -- and $
    group 0x8c5 (
    row 561 0x81e300000000 with (3, 0) => (flags, 0x44) ∷
    row 562 0x81e500000080 with (5, 1) => (5, 0) => (flags, 0x44) ∷
    row 563 0x4981e701000000 with (15, 0xffffffffffffffff) => (15, 1) => (flags, 0) ∷
    row 564 0x4081e6ffffff7f with (6, 0x8000000000000000) => (6, 0) => (flags, 0x44) ∷
    row 565 0x4181e4ffffffff with (12, 0x7fffffffffffffff) => (12, 0xffffffff) => (flags, 0x84) ∷
    row 566 0x4181e201000000 with (10, 0x80000000) => (10, 0) => (flags, 0x44) ∷
    row 567 0x4881e6ffffff7f with (6, 0x7fffffff) => (flags, 4) ∷
    row 568 0x4881e2ffffffff with (2, 0xffffffff) => (flags, 4) ∷
    row 569 0x81e500000000 with (5, 0xffffffff7fffffff) => (5, 0) => (flags, 0x44) ∷
    row 570 0x4181e500000080 with (13, 0xffffffff80000000) => (13, 0x80000000) => (flags, 0x84) ∷
    row 571 0x4181e3ffffffff with (11, 1) => (flags, 0) ∷
    row 572 0x4081e600000000 with (6, 0xffffffffffffffff) => (6, 0) => (flags, 0x44) ∷
    row 573 0x4981e200000080 with (10, 0x8000000000000000) => (flags, 0x84) ∷
    row 574 0x4881e601000000 with (6, 0x7fffffffffffffff) => (6, 1) => (flags, 0) ∷
    row 575 0x4881e1ffffff7f with (1, 0x80000000) => (1, 0) => (flags, 0x44) ∷
    row 576 0x81e600000080 with (6, 0x7fffffff) => (6, 0) => (flags, 0x44) ∷
    row 577 0x4081e101000000 with (1, 0xffffffff) => (1, 1) => (flags, 0) ∷
    row 578 0x81e6ffffff7f with (6, 0xffffffff7fffffff) => (6, 0x7fffffff) => (flags, 4) ∷
    row 579 0x4881e0ffffffff with (0, 0xffffffff80000000) => (flags, 0x84) ∷
    row 580 0x81e200000000 with (2, 0) => (flags, 0x44) ∷
    row 581 0x4181e4bd3491e7 => (12, 0xe0111489) => (flags, 0x80) ∷
    row 582 0x4881e1622e6bca => (1, 0xc9724dd50a012462) => (flags, 0x80) ∷
    row 583 0x81e7f6dde58e => (7, 0x8ea50582) => (flags, 0x84) ∷
    row 584 0x4081e16d868392 => (1, 0x80018201) => (flags, 0x80) ∷
    row 585 0x81e50870ac1c => (5, 0xc881000) => (flags, 4) ∷
    row 586 0x81e6ba70ae71 => (6, 0x300a70a8) => (flags, 0) ∷
    row 587 0x4881e4ea900b12 => (4, 0x380c2) => (flags, 0) ∷
    row 588 0x81e7329a8267 => (7, 0x44021022) => (flags, 4) ∷
    row 589 0x4081e5321bd299 => (5, 0x9501100) => (flags, 4) ∷
    row 590 0x4081e275f02cc4 => (2, 0x4008f001) => (flags, 0) ∷
    row 591 0x81e50f910943 => (5, 0x9010e) => (flags, 0) ∷
    row 592 0x81e57b52990f => (5, 0x7105233) => (flags, 4) ∷
    row 593 0x81e72cd0e178 => (7, 0x78c01020) => (flags, 0) ∷
    row 594 0x4881e16d02010a => (1, 0xa01026c) => (flags, 4) ∷
    row 595 0x4081e646361090 => (6, 0x10102604) => (flags, 0) ∷
    row 596 0x81e5b15caccc => (5, 0x4005891) => (flags, 0) ∷
    row 597 0x81e2c3547a84 => (2, 0x80620482) => (flags, 0x84) ∷
    row 598 0x4081e63c1022ee => (6, 0x22001038) => (flags, 0) ∷
    row 599 0x81e578dd4ebc => (5, 0x84e9d30) => (flags, 4) ∷
    row 600 0x4081e3c69d5d43 => (3, 0x404088c0) => (flags, 4) ∷
    []) ∷
    -- sub
    group 0x8d5 (
    row 601 0x402b05077fed4d with (0, 0) with (m1, 0) with (at, 0x70005ff9161f) => (flags, 0x44) ∷
    row 602 0x4c2b0500000080 with (8, 1) with (m1, 0xffffffff) with (at, 0x6fff93ed14a5)
    => (8, 0xffffffff00000002) => (flags, 0x91) ∷
    row 603 0x482b3d02597f5b with (7, 0xffffffffffffffff) with (m1, 0x7fffffffffffffff)
    with (at, 0x70008cf6c35c) => (7, 0x8000000000000000) => (flags, 0x84) ∷
    row 604 0x2b2dffffff7f with (5, 0x8000000000000000) with (m1, 1) with (at, 0x7000aaaa9833)
    => (5, 0xffffffff) => (flags, 0x95) ∷
    row 605 0x482b1da5bfe020 with (3, 0x7fffffffffffffff) with (m1, 0xffffffff7fffffff)
    with (at, 0x700060675ddd) => (3, 0x8000000080000000) => (flags, 0x885) ∷
    row 606 0x2b052d1d5f77 with (0, 0x80000000) with (m1, 0x80000000) with (at, 0x7000a76a998f)
    => (0, 0) => (flags, 0x44) ∷
    row 607 0x4c2b1dffffff7f with (11, 0x7fffffff) with (m1, 0xffffffffffffffff)
    with (at, 0x7000bc3932b3) => (11, 0x80000000) => (flags, 5) ∷
    row 608 0x2b0d38560754 with (1, 0xffffffff) with (m1, 0xffffffff80000000)
    with (at, 0x700078171764) => (1, 0x7fffffff) => (flags, 4) ∷
    row 609 0x482b357116c336 with (6, 0xffffffff7fffffff) with (m1, 0x7fffffff)
    with (at, 0x70005e523e3e) => (6, 0xffffffff00000000) => (flags, 0x84) ∷
    row 610 0x2b1d00000080 with (3, 0xffffffff80000000) with (m1, 0x8000000000000000)
    with (at, 0x6fff86b76693) => (3, 0x80000000) => (flags, 0x84) ∷
    row 611 0x402b3558bacf7c with (6, 1) with (m1, 1) with (at, 0x70007e5837db) => (6, 0)
    => (flags, 0x44) ∷
    row 612 0x482b0d5478a74b with (1, 0xffffffffffffffff) with (m1, 0xffffffff7fffffff)
    with (at, 0x700063a9e4ed) => (1, 0x80000000) => (flags, 4) ∷
    row 613 0x2b0d00000080 with (1, 0x8000000000000000) with (m1, 0x80000000)
    with (at, 0x6fff8a2533d5) => (1, 0x80000000) => (flags, 0x885) ∷
    row 614 0x2b05d1f23e3d with (0, 0x7fffffffffffffff) with (m1, 0xffffffffffffffff)
    with (at, 0x7000552fc60a) => (0, 0) => (flags, 0x44) ∷
    row 615 0x2b3dffffff7f with (7, 0x80000000) with (m1, 0xffffffff80000000)
    with (at, 0x700081654ac4) => (7, 0) => (flags, 0x44) ∷
    row 616 0x402b0d00000080 with (1, 0x7fffffff) with (m1, 0x7fffffff) with (at, 0x6fff86829a79)
    => (1, 0) => (flags, 0x44) ∷
    row 617 0x2b1ddabd4628 with (3, 0xffffffff) with (m1, 0x8000000000000000)
    with (at, 0x70004f8f802c) => (flags, 0x84) ∷
    row 618 0x2b1dffffff7f with (3, 0xffffffff7fffffff) with (m1, 0) with (at, 0x7000a3b7c253)
    => (3, 0x7fffffff) => (flags, 4) ∷
    row 619 0x402b2595dece5e with (4, 0xffffffff80000000) with (m1, 0xffffffff)
    with (at, 0x70009a9e7912) => (4, 0x80000001) => (flags, 0x91) ∷
    row 620 0x2b25f3b3ee17 with (4, 0) with (m1, 0x7fffffffffffffff) with (at, 0x7000477efebf)
    => (4, 1) => (flags, 0x11) ∷
    row 621 0x4c2b051c81c94e with (at, 0x70008dc35461) => (8, 0x62b826274dd0366d) => (flags, 0x11) ∷
    row 622 0x402b3526349b52 with (at, 0x70007ca76809) => (6, 0x9f8a05ac) => (flags, 0x94) ∷
    row 623 0x482b3d9b961015 with (at, 0x700045d80344) => (7, 0x9d1e1b3c58897aa7) => (flags, 0x91) ∷
    row 624 0x2b2d6a4a771c with (at, 0x70002fa2c7ff) => (5, 0x6e6b500) => (flags, 4) ∷
    row 625 0x442b05d73e4f9e with (at, 0x6fffaf87a582) => (8, 0x45969d6) => (flags, 0x10) ∷
    row 626 0x2b1d1d35ff42 with (at, 0x70006ded5d02) => (3, 0x9308bb3d) => (flags, 0x90) ∷
    row 627 0x402b159737390a with (at, 0x70002a85f8e0) => (2, 0x77b90d50) => (flags, 5) ∷
    row 628 0x2b25e079f50b with (at, 0x70003d49acb3) => (4, 0x8eb2ef8f) => (flags, 0x90) ∷
    row 629 0x2b0dad7bd82c with (at, 0x70004adcf831) => (1, 0x33c9984d) => (flags, 0x814) ∷
    row 630 0x2b0524960de9 with (at, 0x70000f6b3481) => (0, 0x751d5579) => (flags, 0x11) ∷
    row 631 0x2b1528982814 with (at, 0x70001e883085) => (2, 0x9aa6c76) => (flags, 0x10) ∷
    row 632 0x482b25bc79907b with (at, 0x7000859ae441) => (4, 0xbdeaa575d7819576) => (flags, 0x80) ∷
    row 633 0x2b155ef30045 with (at, 0x70006a5f0831) => (2, 0xd2a31c09) => (flags, 0x85) ∷
    row 634 0x4c2b252c978a85 with (at, 0x6fffa1e52e76) => (12, 0xef7c8c8439a10d2a) => (flags, 0x90)
    ∷
    row 635 0x2b1579f79035 with (at, 0x70006490e95f) => (2, 0x9b9bcb9b) => (flags, 0x80) ∷
    row 636 0x2b1d22670d13 with (at, 0x7000305b8bcc) => (3, 0x2478c18d) => (flags, 0x14) ∷
    row 637 0x442b0d8df496d6 with (at, 0x6ffffddc2424) => (9, 0x4ffa7106) => (flags, 5) ∷
    row 638 0x2b050c49b81c with (at, 0x7000299d5bb5) => (0, 0x2b458642) => (flags, 5) ∷
    row 639 0x402b1d9194b058 with (at, 0x700066de6275) => (3, 0x3680c372) => (flags, 0x14) ∷
    row 640 0x2b3d06ff16ad with (at, 0x6fffd836604a) => (7, 0xfbba5ecd) => (flags, 0x91) ∷
    []) ∷
    -- sub $
    group 0x8d5 (
    row 641 0x81ef00000000 with (7, 0) => (flags, 0x44) ∷
    row 642 0x4981ed00000080 with (13, 1) => (13, 0x80000001) => (flags, 1) ∷
    row 643 0x81ec01000000 with (4, 0xffffffffffffffff) => (4, 0xfffffffe) => (flags, 0x80) ∷
    row 644 0x4181efffffff7f with (15, 0x8000000000000000) => (15, 0x80000001) => (flags, 0x91) ∷
    row 645 0x81ecffffffff with (4, 0x7fffffffffffffff) => (4, 0) => (flags, 0x44) ∷
    row 646 0x4881ef01000000 with (7, 0x80000000) => (7, 0x7fffffff) => (flags, 0x14) ∷
    row 647 0x81ecffffff7f with (4, 0x7fffffff) => (4, 0) => (flags, 0x44) ∷
    row 648 0x81e9ffffffff with (1, 0xffffffff) => (1, 0) => (flags, 0x44) ∷
    row 649 0x4881e900000000 with (1, 0xffffffff7fffffff) => (flags, 0x84) ∷
    row 650 0x4181ee00000080 with (14, 0xffffffff80000000) => (14, 0) => (flags, 0x44) ∷
    row 651 0x81e9ffffffff with (1, 1) => (1, 2) => (flags, 0x11) ∷
    row 652 0x4081ec00000000 with (4, 0xffffffffffffffff) => (4, 0xffffffff) => (flags, 0x84) ∷
    row 653 0x4981e800000080 with (8, 0x8000000000000000) => (8, 0x8000000080000000)
    => (flags, 0x85) ∷
    row 654 0x81ea01000000 with (2, 0x7fffffffffffffff) => (2, 0xfffffffe) => (flags, 0x80) ∷
    row 655 0x81e8ffffff7f with (0, 0x80000000) => (0, 1) => (flags, 0x810) ∷
    row 656 0x4881ee00000080 with (6, 0x7fffffff) => (6, 0xffffffff) => (flags, 5) ∷
    row 657 0x4981ec01000000 with (12, 0xffffffff) => (12, 0xfffffffe) => (flags, 0) ∷
    row 658 0x81ecffffff7f with (4, 0xffffffff7fffffff) => (4, 0) => (flags, 0x44) ∷
    row 659 0x4081eeffffffff with (6, 0xffffffff80000000) => (6, 0x80000001) => (flags, 0x91) ∷
    row 660 0x81ea00000000 with (2, 0) => (flags, 0x44) ∷
    row 661 0x81eb7a6dd2cc => (3, 0xe30245eb) => (flags, 0x95) ∷
    row 662 0x4981eff2af53fd => (15, 0x32632c5e652a633) => (flags, 5) ∷
    row 663 0x4081ecb8e88cb0 => (4, 0x5aadf376) => (flags, 1) ∷
    row 664 0x81e86bd00452 => (0, 0x212490e) => (flags, 0x10) ∷
    row 665 0x4181ed2523a244 => (13, 0x61c254e5) => (flags, 0x800) ∷
    row 666 0x4881ed754a0fb0 => (5, 0xfbf502eeb1d2d078) => (flags, 0x85) ∷
    row 667 0x4081ea84c711db => (2, 0x9ade9de8) => (flags, 0x885) ∷
    row 668 0x4881ed0a873e7c => (5, 0x1574a5032c0e88f8) => (flags, 0x10) ∷
    row 669 0x81e927de3954 => (1, 0xb712b13c) => (flags, 0x95) ∷
    row 670 0x4081edc81977ca => (5, 0x92e44bed) => (flags, 0x895) ∷
    row 671 0x81efb7d713d2 => (7, 0x5c5d661a) => (flags, 0x11) ∷
    row 672 0x4981ed504a513a => (13, 0xa8fd7d60e503546a) => (flags, 0x84) ∷
    row 673 0x4081ef9830f51f => (7, 0xc4ee1738) => (flags, 0x90) ∷
    row 674 0x81ee7ff7542b => (6, 0x376d7caa) => (flags, 0x14) ∷
    row 675 0x81e8935cf4c6 => (0, 0x9fe0f2a3) => (flags, 0x885) ∷
    row 676 0x4981eb2c743ec2 => (11, 0xcf23234e0a086a5) => (flags, 0x15) ∷
    row 677 0x81eeba9f49f2 => (6, 0x9ffdc681) => (flags, 0x85) ∷
    row 678 0x4181e9e000ac35 => (9, 0x64f3a19) => (flags, 0) ∷
    row 679 0x4981ed7bdc7d72 => (13, 0x1eac4a6631184873) => (flags, 0) ∷
    row 680 0x81ef364b725f => (7, 0x8b46b86a) => (flags, 0x94) ∷
    []) ∷
    -- xor
    group 0x8c5 (
    row 681 0x40331545f65a49 with (2, 0) with (m1, 0) with (at, 0x70005e09ee3b) => (flags, 0x44) ∷
    row 682 0x48331500000080 with (2, 1) with (m1, 0xffffffff) with (at, 0x6fffbb5401c9)
    => (2, 0xfffffffe) => (flags, 0) ∷
    row 683 0x330d657e9a26 with (1, 0xffffffffffffffff) with (m1, 0x7fffffffffffffff)
    with (at, 0x7000643c6227) => (1, 0) => (flags, 0x44) ∷
    row 684 0x4c3305ffffff7f with (8, 0x8000000000000000) with (m1, 1) with (at, 0x70009b989de4)
    => (8, 0x8000000000000001) => (flags, 0x80) ∷
    row 685 0x44333df4f41232 with (15, 0x7fffffffffffffff) with (m1, 0xffffffff7fffffff)
    with (at, 0x7000474b2521) => (15, 0x80000000) => (flags, 0x84) ∷
    row 686 0x332d069a901c with (5, 0x80000000) with (m1, 0x80000000) with (at, 0x7000471134a2)
    => (5, 0) => (flags, 0x44) ∷
    row 687 0x330dffffff7f with (1, 0x7fffffff) with (m1, 0xffffffffffffffff)
    with (at, 0x70009b71dd32) => (1, 0x80000000) => (flags, 0x84) ∷
    row 688 0x332d581e2628 with (5, 0xffffffff) with (m1, 0xffffffff80000000)
    with (at, 0x70005032164a) => (5, 0x7fffffff) => (flags, 4) ∷
    row 689 0x4c3315b7de5425 with (10, 0xffffffff7fffffff) with (m1, 0x7fffffff)
    with (at, 0x700035a3c990) => (10, 0xffffffff00000000) => (flags, 0x84) ∷
    row 690 0x48332d00000080 with (5, 0xffffffff80000000) with (m1, 0x8000000000000000)
    with (at, 0x6fff943ab5e6) => (5, 0x7fffffff80000000) => (flags, 4) ∷
    row 691 0x4433058755aa25 with (8, 1) with (m1, 1) with (at, 0x70005979aea1) => (8, 0)
    => (flags, 0x44) ∷
    row 692 0x33355cd9916d with (6, 0xffffffffffffffff) with (m1, 0xffffffff7fffffff)
    with (at, 0x70009c9eadd1) => (6, 0x80000000) => (flags, 0x84) ∷
    row 693 0x330d00000080 with (1, 0x8000000000000000) with (m1, 0x80000000)
    with (at, 0x6fff85f327f8) => (1, 0x80000000) => (flags, 0x84) ∷
    row 694 0x330deed3c27a with (1, 0x7fffffffffffffff) with (m1, 0xffffffffffffffff)
    with (at, 0x7000b3452790) => (1, 0) => (flags, 0x44) ∷
    row 695 0x332dffffff7f with (5, 0x80000000) with (m1, 0xffffffff80000000)
    with (at, 0x700086ba5772) => (5, 0) => (flags, 0x44) ∷
    row 696 0x330d00000080 with (1, 0x7fffffff) with (m1, 0x7fffffff) with (at, 0x6fffb09b336c)
    => (1, 0) => (flags, 0x44) ∷
    row 697 0x44333df733f145 with (15, 0xffffffff) with (m1, 0x8000000000000000)
    with (at, 0x70007c161b84) => (flags, 0x84) ∷
    row 698 0x332dffffff7f with (5, 0xffffffff7fffffff) with (m1, 0) with (at, 0x7000975773d2)
    => (5, 0x7fffffff) => (flags, 4) ∷
    row 699 0x44331d499a7539 with (11, 0xffffffff80000000) with (m1, 0xffffffff)
    with (at, 0x70004da8728b) => (11, 0x7fffffff) => (flags, 4) ∷
    row 700 0x332daf7f661a with (5, 0) with (m1, 0x7fffffffffffffff) with (at, 0x7000471d9486)
    => (5, 0xffffffff) => (flags, 0x84) ∷
    row 701 0x332d126b9b70 with (at, 0x7000917f94a6) => (5, 0x8678a1) => (flags, 0) ∷
    row 702 0x4c33150f4a4fb4 with (at, 0x6fffe5096088) => (10, 0xf86bc14347c80f6b) => (flags, 0x80)
    ∷
    row 703 0x331d503c1ae5 with (at, 0x7000015317d4) => (3, 0xf3813bd7) => (flags, 0x84) ∷
    row 704 0x331d9da3028d with (at, 0x6fffb0631c54) => (3, 0xa85f3788) => (flags, 0x84) ∷
    row 705 0x332599c9fd9b with (at, 0x6fffa22eb7aa) => (4, 0xd84716d5) => (flags, 0x80) ∷
    row 706 0x3305e648cb8c with (at, 0x6fff91758478) => (0, 0xd8e4e716) => (flags, 0x80) ∷
    row 707 0x33255ef6f1cd with (at, 0x6fffecbe5799) => (4, 0xed64c460) => (flags, 0x84) ∷
    row 708 0x3305e8e862a9 with (at, 0x6fffbdfa47f3) => (0, 0x655b5161) => (flags, 0) ∷
    row 709 0x330534b3c373 with (at, 0x700099cee836) => (0, 0x9c6bd93f) => (flags, 0x84) ∷
    row 710 0x483335679e877e with (at, 0x700091af8188) => (6, 0xff1eab5f8b1a420) => (flags, 0) ∷
    row 711 0x331d568f7806 with (at, 0x70002265f8bc) => (3, 0x18c3112f) => (flags, 0) ∷
    row 712 0x4c33354390148f with (at, 0x6fff8f705817) => (14, 0xfe272ffe0548c361) => (flags, 0x80)
    ∷
    row 713 0x40330d56a6e36a with (at, 0x70006b56a4be) => (1, 0x348701b8) => (flags, 4) ∷
    row 714 0x403305f2a8be4a with (at, 0x700066f1b616) => (0, 0x764576b9) => (flags, 0) ∷
    row 715 0x4c3325e59eb166 with (at, 0x70007a4d92ec) => (12, 0x5e622bcbe80737d7) => (flags, 4) ∷
    row 716 0x332583d17a9c with (at, 0x6fffc3288493) => (4, 0xd0b6deb8) => (flags, 0x84) ∷
    row 717 0x3325c3a19fd4 with (at, 0x6fffea07ec04) => (4, 0x63f92d23) => (flags, 0) ∷
    row 718 0x331d72cf8522 with (at, 0x70004251890c) => (3, 0xa9eb1bb6) => (flags, 0x80) ∷
    row 719 0x330ddd9055fc with (at, 0x7000022d91f7) => (1, 0xc2b92f20) => (flags, 0x80) ∷
    row 720 0x33054d599c6c with (at, 0x700074297a0e) => (0, 0x5e6285f2) => (flags, 0) ∷
    []) ∷
    -- xor $
    group 0x8c5 (
    row 721 0x4181f200000000 with (10, 0) => (flags, 0x44) ∷
    row 722 0x4881f300000080 with (3, 1) => (3, 0xffffffff80000001) => (flags, 0x80) ∷
    row 723 0x4181f601000000 with (14, 0xffffffffffffffff) => (14, 0xfffffffe) => (flags, 0x80) ∷
    row 724 0x4981f3ffffff7f with (11, 0x8000000000000000) => (11, 0x800000007fffffff)
    => (flags, 0x84) ∷
    row 725 0x81f5ffffffff with (5, 0x7fffffffffffffff) => (5, 0) ∷
    row 726 0x81f601000000 with (6, 0x80000000) => (6, 0x80000001) => (flags, 0x80) ∷
    row 727 0x81f3ffffff7f with (3, 0x7fffffff) => (3, 0) => (flags, 0x44) ∷
    row 728 0x81f1ffffffff with (1, 0xffffffff) => (1, 0) => (flags, 0x44) ∷
    row 729 0x4081f300000000 with (3, 0xffffffff7fffffff) => (3, 0x7fffffff) => (flags, 4) ∷
    row 730 0x4181f600000080 with (14, 0xffffffff80000000) => (14, 0) => (flags, 0x44) ∷
    row 731 0x81f1ffffffff with (1, 1) => (1, 0xfffffffe) => (flags, 0x80) ∷
    row 732 0x81f000000000 with (0, 0xffffffffffffffff) => (0, 0xffffffff) => (flags, 0x84) ∷
    row 733 0x81f000000080 with (0, 0x8000000000000000) => (0, 0x80000000) => (flags, 0x84) ∷
    row 734 0x81f301000000 with (3, 0x7fffffffffffffff) => (3, 0xfffffffe) => (flags, 0x80) ∷
    row 735 0x4081f6ffffff7f with (6, 0x80000000) => (6, 0xffffffff) => (flags, 0x84) ∷
    row 736 0x81f600000080 with (6, 0x7fffffff) => (6, 0xffffffff) => (flags, 0x84) ∷
    row 737 0x4081f001000000 with (0, 0xffffffff) => (0, 0xfffffffe) => (flags, 0x80) ∷
    row 738 0x81f1ffffff7f with (1, 0xffffffff7fffffff) => (1, 0) => (flags, 0x44) ∷
    row 739 0x4181f6ffffffff with (14, 0xffffffff80000000) => (14, 0x7fffffff) => (flags, 4) ∷
    row 740 0x81f200000000 with (2, 0) => (flags, 0x44) ∷
    row 741 0x4981f7a29976bc => (15, 0xe267f802196de1b4) => (flags, 0x84) ∷
    row 742 0x81f03c5761fc => (0, 0xa3a3720d) => (flags, 0x80) ∷
    row 743 0x81f33fc71eb9 => (3, 0xd03bd6a1) => (flags, 0x80) ∷
    row 744 0x4181f53fdd2371 => (13, 0x16b45dd1) => (flags, 4) ∷
    row 745 0x4181f6271a24af => (14, 0xec6ebea8) => (flags, 0x80) ∷
    row 746 0x81f51bb8da87 => (5, 0xfbb87cff) => (flags, 0x84) ∷
    row 747 0x4981f5885ad3ef => (13, 0xb7c138716871c67a) => (flags, 0x80) ∷
    row 748 0x81f249f71e5f => (2, 0x479e3e16) => (flags, 0) ∷
    row 749 0x4981f39d25e706 => (11, 0xa3a190e48ec56a27) => (flags, 0x84) ∷
    row 750 0x4881f07fbfaa41 => (0, 0xe39a87596e5b87cb) => (flags, 0x80) ∷
    row 751 0x4981f17147d91f => (9, 0xc5f2d3a7819acc70) => (flags, 0x80) ∷
    row 752 0x4981f751a61cb4 => (15, 0x3f04a65da30c0d42) => (flags, 4) ∷
    row 753 0x81f2c21f21de => (2, 0x53a8d2b4) => (flags, 4) ∷
    row 754 0x4881f2f2b0d7fb => (2, 0xf8d74e32ff6ee64f) => (flags, 0x80) ∷
    row 755 0x81f043793f8d => (0, 0x19c16ca0) => (flags, 4) ∷
    row 756 0x4081f62a244acd => (6, 0xcd7101b5) => (flags, 0x80) ∷
    row 757 0x4181f0f08c44b2 => (8, 0x2f2ce0a1) => (flags, 0) ∷
    row 758 0x4181f22f4aec19 => (10, 0x5664d701) => (flags, 0) ∷
    row 759 0x81f199f8294d => (1, 0x823e358c) => (flags, 0x80) ∷
    row 760 0x4881f0f8947ffb => (0, 0xe28e094496f79a1e) => (flags, 0x84) ∷
    []) ∷
    -- cmp
    group 0x8d5 (
    row 761 0x4c3b2516fe5211 with (12, 0) with (m1, 0) with (at, 0x700025c12cb3) => (flags, 0x44) ∷
    row 762 0x483b1500000080 with (2, 1) with (m1, 0xffffffff) with (at, 0x6fff9fd6c4b5)
    => (flags, 0x91) ∷
    row 763 0x403b058cfd7010 with (0, 0xffffffffffffffff) with (m1, 0x7fffffffffffffff)
    with (at, 0x700017593081) => (flags, 0x44) ∷
    row 764 0x3b1dffffff7f with (3, 0x8000000000000000) with (m1, 1) with (at, 0x700089a2795a)
    => (flags, 0x95) ∷
    row 765 0x443b258859873b with (12, 0x7fffffffffffffff) with (m1, 0xffffffff7fffffff)
    with (at, 0x7000638cf173) => (flags, 0x84) ∷
    row 766 0x3b3dcddcf549 with (7, 0x80000000) with (m1, 0x80000000) with (at, 0x70006c076b6c)
    => (flags, 0x44) ∷
    row 767 0x483b3dffffff7f with (7, 0x7fffffff) with (m1, 0xffffffffffffffff)
    with (at, 0x7000b7c65d7c) => (flags, 5) ∷
    row 768 0x4c3b2d2b91bb4d with (13, 0xffffffff) with (m1, 0xffffffff80000000)
    with (at, 0x700076df95ac) => (flags, 5) ∷
    row 769 0x3b0df1fd3c62 with (1, 0xffffffff7fffffff) with (m1, 0x7fffffff)
    with (at, 0x70009867819d) => (flags, 0x44) ∷
    row 770 0x3b1500000080 with (2, 0xffffffff80000000) with (m1, 0x8000000000000000)
    with (at, 0x6fff9ed9daff) => (flags, 0x84) ∷
    row 771 0x3b15d81aaf2b with (2, 1) with (m1, 1) with (at, 0x70004ee12551) => (flags, 0x44) ∷
    row 772 0x3b35d49b4c1c with (6, 0xffffffffffffffff) with (m1, 0xffffffff7fffffff)
    with (at, 0x70001f7fadee) => (flags, 0x84) ∷
    row 773 0x4c3b1d00000080 with (11, 0x8000000000000000) with (m1, 0x80000000)
    with (at, 0x6fffbedcf1e3) => (flags, 0x804) ∷
    row 774 0x3b0dacd7ad52 with (1, 0x7fffffffffffffff) with (m1, 0xffffffffffffffff)
    with (at, 0x700068dd817e) => (flags, 0x44) ∷
    row 775 0x403b35ffffff7f with (6, 0x80000000) with (m1, 0xffffffff80000000)
    with (at, 0x7000892b39e9) => (flags, 0x44) ∷
    row 776 0x3b0500000080 with (0, 0x7fffffff) with (m1, 0x7fffffff) with (at, 0x6fff97cfa228)
    => (flags, 0x44) ∷
    row 777 0x3b151fbcb37c with (2, 0xffffffff) with (m1, 0x8000000000000000)
    with (at, 0x70007ed09eac) => (flags, 0x84) ∷
    row 778 0x3b05ffffff7f with (0, 0xffffffff7fffffff) with (m1, 0) with (at, 0x70008812fb19)
    => (flags, 4) ∷
    row 779 0x443b3d7a980c02 with (15, 0xffffffff80000000) with (m1, 0xffffffff)
    with (at, 0x70002bbe8449) => (flags, 0x91) ∷
    row 780 0x3b0dff5cad30 with (1, 0) with (m1, 0x7fffffffffffffff) with (at, 0x700057a711a9)
    => (flags, 0x11) ∷
    row 781 0x3b3d0062b284 with (at, 0x6fffc49cb7ad) => (flags, 0) ∷
    row 782 0x403b352d25c277 with (at, 0x7000ac45f404) => (flags, 0x885) ∷
    row 783 0x403b35de5c0a9a with (at, 0x6fff9ed07d07) => (flags, 0x10) ∷
    row 784 0x3b1d672455ce with (at, 0x6fffff066e07) => (flags, 0x85) ∷
    row 785 0x3b2d18620744 with (at, 0x70007c4cad58) ∷
    row 786 0x4c3b35b88f3767 with (at, 0x700082b9b4c0) => (flags, 0) ∷
    row 787 0x403b0d2b0f4961 with (at, 0x70007bb0e622) => (flags, 0x85) ∷
    row 788 0x483b05dab36766 with (at, 0x70009b5e14e6) => (flags, 0x95) ∷
    row 789 0x4c3b25b813d27f with (at, 0x7000aaffd701) => (flags, 0x91) ∷
    row 790 0x443b2d55d00794 with (at, 0x6fffd115ce02) => (flags, 0x810) ∷
    row 791 0x3b056f91291b with (at, 0x700045c0a1a7) => (flags, 0x881) ∷
    row 792 0x443b2d614e3b34 with (at, 0x70006804494c) => (flags, 5) ∷
    row 793 0x3b05409096b7 with (at, 0x6fffd03a4e04) => (flags, 0x885) ∷
    row 794 0x3b1d026c5665 with (at, 0x70007e7dc4c8) => (flags, 0x881) ∷
    row 795 0x3b2d7d2715c3 with (at, 0x6ffff868f36b) => (flags, 0x85) ∷
    row 796 0x3b350771d15a with (at, 0x700087fa8845) => (flags, 0x14) ∷
    row 797 0x443b2d5b18f991 with (at, 0x6fff92a05311) => (flags, 4) ∷
    row 798 0x3b0d2c29a827 with (at, 0x700057765f7f) => (flags, 0x891) ∷
    row 799 0x3b25d75c8a88 with (at, 0x6fffc32866f0) => (flags, 0x81) ∷
    row 800 0x3b1da394d10e with (at, 0x70002fe84aa9) => (flags, 0x80) ∷
    []) ∷
    -- cmp $
    group 0x8d5 (
    row 801 0x4981fc00000000 with (12, 0) => (flags, 0x44) ∷
    row 802 0x81f900000080 with (1, 1) => (flags, 0x881) ∷
    row 803 0x81ff01000000 with (7, 0xffffffffffffffff) => (flags, 0x80) ∷
    row 804 0x81feffffff7f with (6, 0x8000000000000000) => (flags, 0x91) ∷
    row 805 0x4081faffffffff with (2, 0x7fffffffffffffff) => (flags, 0x44) ∷
    row 806 0x4181fa01000000 with (10, 0x80000000) => (flags, 0x814) ∷
    row 807 0x81feffffff7f with (6, 0x7fffffff) => (flags, 0x44) ∷
    row 808 0x81f9ffffffff with (1, 0xffffffff) => (flags, 0x44) ∷
    row 809 0x81ff00000000 with (7, 0xffffffff7fffffff) => (flags, 4) ∷
    row 810 0x81fa00000080 with (2, 0xffffffff80000000) => (flags, 0x44) ∷
    row 811 0x4181fdffffffff with (13, 1) => (flags, 0x11) ∷
    row 812 0x4081fe00000000 with (6, 0xffffffffffffffff) => (flags, 0x84) ∷
    row 813 0x81f800000080 with (0, 0x8000000000000000) => (flags, 0x885) ∷
    row 814 0x4181fa01000000 with (10, 0x7fffffffffffffff) => (flags, 0x80) ∷
    row 815 0x81fbffffff7f with (3, 0x80000000) => (flags, 0x810) ∷
    row 816 0x81fd00000080 with (5, 0x7fffffff) => (flags, 0x885) ∷
    row 817 0x81fd01000000 with (5, 0xffffffff) => (flags, 0x80) ∷
    row 818 0x81ffffffff7f with (7, 0xffffffff7fffffff) => (flags, 0x44) ∷
    row 819 0x4881fcffffffff with (4, 0xffffffff80000000) => (flags, 0x91) ∷
    row 820 0x81fa00000000 with (2, 0) => (flags, 0x44) ∷
    row 821 0x4881febe9bc06f => (flags, 0x10) ∷
    row 822 0x81f8db33c1e8 => (flags, 0x85) ∷
    row 823 0x81fb2bb5be09 => (flags, 0x94) ∷
    row 824 0x81fc93411e1d => (flags, 0x81) ∷
    row 825 0x4081fe00f8c3a3 => (flags, 4) ∷
    row 826 0x81f912f0a278 => (flags, 0x804) ∷
    row 827 0x4981ff7b309474 => (flags, 0x80) ∷
    row 828 0x4081fcefd137a1 => (flags, 0x891) ∷
    row 829 0x4081f9701f379c => (flags, 0x881) ∷
    row 830 0x81fe595eeee8 => (flags, 0x10) ∷
    row 831 0x81fd3facd43f => (flags, 0x91) ∷
    row 832 0x81f8333dcada => (flags, 0x91) ∷
    row 833 0x4081f823e5e0da => (flags, 1) ∷
    row 834 0x4181fcc44aab4f => (flags, 0x10) ∷
    row 835 0x81fce218a9f3 => (flags, 0x81) ∷
    row 836 0x81ff2598b2d3 => (flags, 5) ∷
    row 837 0x4081fe003da438 => (flags, 0x800) ∷
    row 838 0x81fcc4446fdb => (flags, 0x85) ∷
    row 839 0x4081fec70f1ff7 => (flags, 0x11) ∷
    row 840 0x81f8b7ddad03 => (flags, 0) ∷
    []) ∷
    -- call *
    group 0x8d5 (
    row 841 0xff157a1d954d with (4, 0x70005ede588c) with (m1, 0x125c9dee0fee)
    with (at, 0x70005ede5884) => (4, 0x70005ede5884) => (m0, 0x700011493b12) => (pc, 0x125c9dee0fee)
    ∷
    row 842 0xff1500000080 with (4, 0x6fff81755d70) with (m1, 0x211a9e0e7543)
    with (at, 0x6fff81755d68) => (4, 0x6fff81755d68) => (m0, 0x700001755d70) => (pc, 0x211a9e0e7543)
    ∷
    row 843 0xff1504b4085c with (4, 0x700069530bfa) with (m1, 0x8912a432d42)
    with (at, 0x700069530bf2) => (4, 0x700069530bf2) => (m0, 0x70000d4a57f6) => (pc, 0x8912a432d42)
    ∷
    row 844 0xff15ffffff7f with (4, 0x7000b4c82aa2) with (m1, 0x65988f52e01b)
    with (at, 0x7000b4c82a9a) => (4, 0x7000b4c82a9a) => (m0, 0x700034c82aa3) => (pc, 0x65988f52e01b)
    ∷
    row 845 0xff15757d6761 with (4, 0x7000995652ec) with (m1, 0x4ceb12fb6b7a)
    with (at, 0x7000995652e4) => (4, 0x7000995652e4) => (m0, 0x700037eed577) => (pc, 0x4ceb12fb6b7a)
    ∷
    row 846 0xff1540ddc271 with (4, 0x7000888135b2) with (m1, 0x1268ebbe7025)
    with (at, 0x7000888135aa) => (4, 0x7000888135aa) => (m0, 0x700016be5872) => (pc, 0x1268ebbe7025)
    ∷
    row 847 0xff15ffffff7f with (4, 0x70009136b394) with (m1, 0x1cdeb3991a1b)
    with (at, 0x70009136b38c) => (4, 0x70009136b38c) => (m0, 0x70001136b395) => (pc, 0x1cdeb3991a1b)
    ∷
    row 848 0xff1595583f1e with (4, 0x700045973f74) with (m1, 0x53aeb7aa8b57)
    with (at, 0x700045973f6c) => (4, 0x700045973f6c) => (m0, 0x70002757e6df) => (pc, 0x53aeb7aa8b57)
    ∷
    row 849 0xff1589d22e11 with (4, 0x70002a50c4d9) with (m1, 0x4d55afaec73c)
    with (at, 0x70002a50c4d1) => (4, 0x70002a50c4d1) => (m0, 0x70001921f250) => (pc, 0x4d55afaec73c)
    ∷
    row 850 0xff1500000080 with (4, 0x6fffa694d5e8) with (m1, 0x51145aa0bad)
    with (at, 0x6fffa694d5e0) => (4, 0x6fffa694d5e0) => (m0, 0x70002694d5e8) => (pc, 0x51145aa0bad)
    ∷
    row 851 0xff152cb57448 with (4, 0x7000582546d4) with (m1, 0x18d4c4d5b0aa)
    with (at, 0x7000582546cc) => (4, 0x7000582546cc) => (m0, 0x70000fb091a8) => (pc, 0x18d4c4d5b0aa)
    ∷
    row 852 0xff1594f1f538 with (4, 0x70004d6b1723) with (m1, 0x4d9ca721345f)
    with (at, 0x70004d6b171b) => (4, 0x70004d6b171b) => (m0, 0x70001475258f) => (pc, 0x4d9ca721345f)
    ∷
    row 853 0xff1500000080 with (4, 0x6fffb4e2919d) with (m1, 0x6d71c61b0587)
    with (at, 0x6fffb4e29195) => (4, 0x6fffb4e29195) => (m0, 0x700034e2919d) => (pc, 0x6d71c61b0587)
    ∷
    row 854 0xff150814cd04 with (4, 0x700035c5e9db) with (m1, 0x6dedafba1589)
    with (at, 0x700035c5e9d3) => (4, 0x700035c5e9d3) => (m0, 0x700030f8d5d3) => (pc, 0x6dedafba1589)
    ∷
    row 855 0xff15ffffff7f with (4, 0x700088b7f22f) with (m1, 0x3d3e8e8facfb)
    with (at, 0x700088b7f227) => (4, 0x700088b7f227) => (m0, 0x700008b7f230) => (pc, 0x3d3e8e8facfb)
    ∷
    row 856 0xff1500000080 with (4, 0x6fffbc1fe6b4) with (m1, 0x7e696f027525)
    with (at, 0x6fffbc1fe6ac) => (4, 0x6fffbc1fe6ac) => (m0, 0x70003c1fe6b4) => (pc, 0x7e696f027525)
    ∷
    row 857 0xff15a8ba950e with (4, 0x700019c66e07) with (m1, 0x14b1bc0096a5)
    with (at, 0x700019c66dff) => (4, 0x700019c66dff) => (m0, 0x70000b30b35f) => (pc, 0x14b1bc0096a5)
    ∷
    row 858 0xff15ffffff7f with (4, 0x7000b5ea5831) with (m1, 0x6b3321ab8e0)
    with (at, 0x7000b5ea5829) => (4, 0x7000b5ea5829) => (m0, 0x700035ea5832) => (pc, 0x6b3321ab8e0)
    ∷
    row 859 0xff1573fde106 with (4, 0x7000432ed29e) with (m1, 0x54f79fc9eb96)
    with (at, 0x7000432ed296) => (4, 0x7000432ed296) => (m0, 0x70003c4cd52b) => (pc, 0x54f79fc9eb96)
    ∷
    row 860 0xff15c8b58f6a with (4, 0x700088e7e015) with (m1, 0x5c4792652d11)
    with (at, 0x700088e7e00d) => (4, 0x700088e7e00d) => (m0, 0x70001e582a4d) => (pc, 0x5c4792652d11)
    ∷
    row 861 0xff15866fa8e8 with (4, 0x700004b4c71b) with (m1, 0x750e82c739bb)
    with (at, 0x700004b4c713) => (4, 0x700004b4c713) => (m0, 0x70001c0c5795) => (pc, 0x750e82c739bb)
    ∷
    row 862 0xff154df492ba with (4, 0x6fffeffc5152) with (m1, 0x67a2021ad626)
    with (at, 0x6fffeffc514a) => (4, 0x6fffeffc514a) => (m0, 0x700035695d05) => (pc, 0x67a2021ad626)
    ∷
    row 863 0xff15d26ea7da with (4, 0x70000516a96e) with (m1, 0x6133b2bbb2b0)
    with (at, 0x70000516a966) => (4, 0x70000516a966) => (m0, 0x70002a6f3a9c) => (pc, 0x6133b2bbb2b0)
    ∷
    row 864 0xff15c97fd8ab with (4, 0x6fffe6f67023) with (m1, 0x7fa8adfdee80)
    with (at, 0x6fffe6f6701b) => (4, 0x6fffe6f6701b) => (m0, 0x70003b1df05a) => (pc, 0x7fa8adfdee80)
    ∷
    row 865 0xff15e9644862 with (4, 0x700089bde328) with (m1, 0x3ea49924c9ab)
    with (at, 0x700089bde320) => (4, 0x700089bde320) => (m0, 0x700027757e3f) => (pc, 0x3ea49924c9ab)
    ∷
    row 866 0xff15e4c98f97 with (4, 0x6fffc705ae30) with (m1, 0x2697b2b84f45)
    with (at, 0x6fffc705ae28) => (4, 0x6fffc705ae28) => (m0, 0x70002f75e44c) => (pc, 0x2697b2b84f45)
    ∷
    row 867 0xff15ca79f3e3 with (4, 0x6ffff7129c4a) with (m1, 0x51dbc6aad774)
    with (at, 0x6ffff7129c42) => (4, 0x6ffff7129c42) => (m0, 0x7000131f2280) => (pc, 0x51dbc6aad774)
    ∷
    row 868 0xff151ac39080 with (4, 0x6fff9301fbf6) with (m1, 0x78276966da47)
    with (at, 0x6fff9301fbee) => (4, 0x6fff9301fbee) => (m0, 0x7000127138dc) => (pc, 0x78276966da47)
    ∷
    row 869 0xff15cce2a07c with (4, 0x7000aa0d0a2a) with (m1, 0x12d54f8f0b87)
    with (at, 0x7000aa0d0a22) => (4, 0x7000aa0d0a22) => (m0, 0x70002d6c275e) => (pc, 0x12d54f8f0b87)
    ∷
    row 870 0xff15f27d9c16 with (4, 0x70003aac6bfa) with (m1, 0x611e983ea917)
    with (at, 0x70003aac6bf2) => (4, 0x70003aac6bf2) => (m0, 0x7000240fee08) => (pc, 0x611e983ea917)
    ∷
    row 871 0xff1532364b49 with (4, 0x70007fa7c30b) with (m1, 0x468b18638186)
    with (at, 0x70007fa7c303) => (4, 0x70007fa7c303) => (m0, 0x7000365c8cd9) => (pc, 0x468b18638186)
    ∷
    row 872 0xff15b87813de with (4, 0x700002657c8a) with (m1, 0x36580638e560)
    with (at, 0x700002657c82) => (4, 0x700002657c82) => (m0, 0x7000245203d2) => (pc, 0x36580638e560)
    ∷
    row 873 0xff153adbfaee with (4, 0x70001ceb2e2b) with (m1, 0x2e47c776ef03)
    with (at, 0x70001ceb2e23) => (4, 0x70001ceb2e23) => (m0, 0x70002df052f1) => (pc, 0x2e47c776ef03)
    ∷
    row 874 0xff15e44a7178 with (4, 0x70008ba8c51c) with (m1, 0x5fc358881bf3)
    with (at, 0x70008ba8c514) => (4, 0x70008ba8c514) => (m0, 0x700013377a38) => (pc, 0x5fc358881bf3)
    ∷
    row 875 0xff15c678fd59 with (4, 0x70006e24f26c) with (m1, 0x26bbb286ded8)
    with (at, 0x70006e24f264) => (4, 0x70006e24f264) => (m0, 0x7000142779a6) => (pc, 0x26bbb286ded8)
    ∷
    row 876 0xff157afcc90b with (4, 0x70003c8a4db6) with (m1, 0x58f4dbf431a7)
    with (at, 0x70003c8a4dae) => (4, 0x70003c8a4dae) => (m0, 0x700030c0513c) => (pc, 0x58f4dbf431a7)
    ∷
    row 877 0xff155a46127b with (4, 0x7000a4144753) with (m1, 0x51aa74fcdc16)
    with (at, 0x7000a414474b) => (4, 0x7000a414474b) => (m0, 0x7000290200f9) => (pc, 0x51aa74fcdc16)
    ∷
    row 878 0xff1574c89024 with (4, 0x7000617d5151) with (m1, 0x66c058978043)
    with (at, 0x7000617d5149) => (4, 0x7000617d5149) => (m0, 0x70003cec88dd) => (pc, 0x66c058978043)
    ∷
    row 879 0xff1592c75deb with (4, 0x700017ddb07a) with (m1, 0x4318f5eef4a4)
    with (at, 0x700017ddb072) => (4, 0x700017ddb072) => (m0, 0x70002c7fe8e8) => (pc, 0x4318f5eef4a4)
    ∷
    row 880 0xff15a0001350 with (4, 0x700087cf21bb) with (m1, 0x512205138358)
    with (at, 0x700087cf21b3) => (4, 0x700087cf21b3) => (m0, 0x700037bc211b) => (pc, 0x512205138358)
    ∷
    []) ∷
    -- jmp *
    group 0x8d5 (
    row 881 0xff256119b135 with (m1, 0x7836963555d1) with (at, 0x700054524acd)
    => (pc, 0x7836963555d1) ∷
    row 882 0xff2500000080 with (m1, 0x193afc623461) with (at, 0x6fffa12f19ee)
    => (pc, 0x193afc623461) ∷
    row 883 0xff25f4d08b7e with (m1, 0x327d2654a775) with (at, 0x7000bdf1ab8a)
    => (pc, 0x327d2654a775) ∷
    row 884 0xff25ffffff7f with (m1, 0x36e995a275bf) with (at, 0x7000b9457365)
    => (pc, 0x36e995a275bf) ∷
    row 885 0xff2586fe6054 with (m1, 0x11d07c7f48) with (at, 0x7000632ee2e3) => (pc, 0x11d07c7f48) ∷
    row 886 0xff25d4fd5157 with (m1, 0x42b6180fd977) with (at, 0x700097512b4f)
    => (pc, 0x42b6180fd977) ∷
    row 887 0xff25ffffff7f with (m1, 0x639cd1c9fa85) with (at, 0x70008cd94ebf)
    => (pc, 0x639cd1c9fa85) ∷
    row 888 0xff25c05c9454 with (m1, 0x512cf79dcf67) with (at, 0x700089f0a4ed)
    => (pc, 0x512cf79dcf67) ∷
    row 889 0xff250c18c971 with (m1, 0x635b424d5191) with (at, 0x7000ab5131cd)
    => (pc, 0x635b424d5191) ∷
    row 890 0xff2500000080 with (m1, 0x44dc7f4cd653) with (at, 0x6fff995cc37c)
    => (pc, 0x44dc7f4cd653) ∷
    row 891 0xff2587fb3c4a with (m1, 0x2410bb701550) with (at, 0x70005f1740e6)
    => (pc, 0x2410bb701550) ∷
    row 892 0xff255c3b7d51 with (m1, 0x4fd2868d3864) with (at, 0x70007d7ddac5)
    => (pc, 0x4fd2868d3864) ∷
    row 893 0xff2500000080 with (m1, 0x1c7dd3fe4d4d) with (at, 0x6fff9ecfd19a)
    => (pc, 0x1c7dd3fe4d4d) ∷
    row 894 0xff259d17e910 with (m1, 0x38926fedd987) with (at, 0x70003e30f38f)
    => (pc, 0x38926fedd987) ∷
    row 895 0xff25ffffff7f with (m1, 0x6585364b3822) with (at, 0x70009768be71)
    => (pc, 0x6585364b3822) ∷
    row 896 0xff2500000080 with (m1, 0x1740507c953b) with (at, 0x6fff9d327919)
    => (pc, 0x1740507c953b) ∷
    row 897 0xff25caffe91a with (m1, 0x6f4203907fb3) with (at, 0x7000598f0bb1)
    => (pc, 0x6f4203907fb3) ∷
    row 898 0xff25ffffff7f with (m1, 0x3f2b89390552) with (at, 0x7000bbc076db)
    => (pc, 0x3f2b89390552) ∷
    row 899 0xff2519930901 with (m1, 0x3e62d63bf333) with (at, 0x7000158e4d12)
    => (pc, 0x3e62d63bf333) ∷
    row 900 0xff25695ac80f with (m1, 0x1b3d2715877a) with (at, 0x700018ba2fa6)
    => (pc, 0x1b3d2715877a) ∷
    row 901 0xff25a8e4ea2b with (m1, 0x1d7782d3a917) with (at, 0x700044f2ad50)
    => (pc, 0x1d7782d3a917) ∷
    row 902 0xff25a48561f2 with (m1, 0x4bd8563cb0e) with (at, 0x6ffff72819df) => (pc, 0x4bd8563cb0e)
    ∷
    row 903 0xff254aa1c1a0 with (m1, 0x92c51518bf6) with (at, 0x6fffacefd93f) => (pc, 0x92c51518bf6)
    ∷
    row 904 0xff25ecb6d979 with (m1, 0x3aafe39a19b2) with (at, 0x7000a9186ac2)
    => (pc, 0x3aafe39a19b2) ∷
    row 905 0xff2542260116 with (m1, 0x781016872fb5) with (at, 0x700043f92e20)
    => (pc, 0x781016872fb5) ∷
    row 906 0xff25a4a80777 with (m1, 0x56b569a58218) with (at, 0x70007f61dcb2)
    => (pc, 0x56b569a58218) ∷
    row 907 0xff254f851006 with (m1, 0x3a574843bba7) with (at, 0x70004475bdb4)
    => (pc, 0x3a574843bba7) ∷
    row 908 0xff256e20fd4a with (m1, 0x1124a068a701) with (at, 0x70005b163551)
    => (pc, 0x1124a068a701) ∷
    row 909 0xff250ff22b65 with (m1, 0x1de41582c6c9) with (at, 0x7000a2a1bb97)
    => (pc, 0x1de41582c6c9) ∷
    row 910 0xff257fd98451 with (m1, 0x7588b9dc9857) with (at, 0x700058002fd4)
    => (pc, 0x7588b9dc9857) ∷
    row 911 0xff2542575edf with (m1, 0x60fccbaf61d) with (at, 0x70000a88128b) => (pc, 0x60fccbaf61d)
    ∷
    row 912 0xff25ec36ee16 with (m1, 0x199056d7d549) with (at, 0x7000426f2f50)
    => (pc, 0x199056d7d549) ∷
    row 913 0xff258b729630 with (m1, 0x7c56662d35f) with (at, 0x700038178032) => (pc, 0x7c56662d35f)
    ∷
    row 914 0xff2547df2a19 with (m1, 0x51ac057bf500) with (at, 0x70005854da58)
    => (pc, 0x51ac057bf500) ∷
    row 915 0xff253dc2ef6c with (m1, 0x2043e9019de0) with (at, 0x70007f6b82df)
    => (pc, 0x2043e9019de0) ∷
    row 916 0xff256e5de3ed with (m1, 0x6798f6a47062) with (at, 0x6fffef59bbc8)
    => (pc, 0x6798f6a47062) ∷
    row 917 0xff25a1c07280 with (m1, 0x1b6713a3a71a) with (at, 0x6fff8c8c94db)
    => (pc, 0x1b6713a3a71a) ∷
    row 918 0xff257154130b with (m1, 0x36b4370d4266) with (at, 0x70003d7976b2)
    => (pc, 0x36b4370d4266) ∷
    row 919 0xff2533840af2 with (m1, 0x73649ead632b) with (at, 0x70002665cca2)
    => (pc, 0x73649ead632b) ∷
    row 920 0xff25349477fc with (m1, 0x8ef0a905394) with (at, 0x70000e70daf8) => (pc, 0x8ef0a905394)
    ∷
    []) ∷
    -- addr32 call
    group 0x8d5 (
    row 921 0x67e800000000 with (4, 0x60001522a662) => (4, 0x60001522a65a) => (m0, 0x70000b401d49) ∷
    row 922 0x67e800000080 with (4, 0x600020edfdde) => (4, 0x600020edfdd6) => (m0, 0x7000202fcbed)
    => (pc, 0x6fffa02fcbed) ∷
    row 923 0x67e801000000 with (4, 0x600008622d81) => (4, 0x600008622d79) => (m0, 0x700010c852b8)
    => (pc, 0x700010c852b9) ∷
    row 924 0x67e8ffffff7f with (4, 0x60000b7f354c) => (4, 0x60000b7f3544) => (m0, 0x70001d09b1ab)
    => (pc, 0x70009d09b1aa) ∷
    row 925 0x67e8ffffffff with (4, 0x60002a45153e) => (4, 0x60002a451536) => (m0, 0x700004f3e8c4)
    => (pc, 0x700004f3e8c3) ∷
    row 926 0x67e801000000 with (4, 0x600024b3cd57) => (4, 0x600024b3cd4f) => (m0, 0x70000886f805)
    => (pc, 0x70000886f806) ∷
    row 927 0x67e8ffffff7f with (4, 0x60003acb5d98) => (4, 0x60003acb5d90) => (m0, 0x700027c2df6e)
    => (pc, 0x7000a7c2df6d) ∷
    row 928 0x67e8ffffffff with (4, 0x60002c8bc5ff) => (4, 0x60002c8bc5f7) => (m0, 0x700022a79efd)
    => (pc, 0x700022a79efc) ∷
    row 929 0x67e800000000 with (4, 0x600039f5068e) => (4, 0x600039f50686) => (m0, 0x7000393536b4) ∷
    row 930 0x67e800000080 with (4, 0x600023071f45) => (4, 0x600023071f3d) => (m0, 0x70002b6ba692)
    => (pc, 0x6fffab6ba692) ∷
    row 931 0x67e8ffffffff with (4, 0x600027c21022) => (4, 0x600027c2101a) => (m0, 0x7000394aee98)
    => (pc, 0x7000394aee97) ∷
    row 932 0x67e800000000 with (4, 0x60000825d927) => (4, 0x60000825d91f) => (m0, 0x700022d30ec4) ∷
    row 933 0x67e800000080 with (4, 0x600004327a53) => (4, 0x600004327a4b) => (m0, 0x700028040718)
    => (pc, 0x6fffa8040718) ∷
    row 934 0x67e801000000 with (4, 0x60001be7f3a7) => (4, 0x60001be7f39f) => (m0, 0x700008ddd794)
    => (pc, 0x700008ddd795) ∷
    row 935 0x67e8ffffff7f with (4, 0x60000f464521) => (4, 0x60000f464519) => (m0, 0x700005608036)
    => (pc, 0x700085608035) ∷
    row 936 0x67e800000080 with (4, 0x60001e4d6ec3) => (4, 0x60001e4d6ebb) => (m0, 0x70001d8c0100)
    => (pc, 0x6fff9d8c0100) ∷
    row 937 0x67e801000000 with (4, 0x600008fd708c) => (4, 0x600008fd7084) => (m0, 0x7000116059f1)
    => (pc, 0x7000116059f2) ∷
    row 938 0x67e8ffffff7f with (4, 0x60000f564a7d) => (4, 0x60000f564a75) => (m0, 0x700020dd8b09)
    => (pc, 0x7000a0dd8b08) ∷
    row 939 0x67e8ffffffff with (4, 0x60003157fc95) => (4, 0x60003157fc8d) => (m0, 0x70000c039449)
    => (pc, 0x70000c039448) ∷
    row 940 0x67e800000000 with (4, 0x60002f0286d4) => (4, 0x60002f0286cc) => (m0, 0x700012d275b0) ∷
    row 941 0x67e84828867d with (4, 0x60000855e93a) => (4, 0x60000855e932) => (m0, 0x7000354a2f3e)
    => (pc, 0x7000b2d05786) ∷
    row 942 0x67e8eee6f819 with (4, 0x60003d5223c7) => (4, 0x60003d5223bf) => (m0, 0x7000336ac0f3)
    => (pc, 0x70004d63a7e1) ∷
    row 943 0x67e8dda8397f with (4, 0x60000df7367c) => (4, 0x60000df73674) => (m0, 0x70000d342ad0)
    => (pc, 0x70008c6dd3ad) ∷
    row 944 0x67e85042221d with (4, 0x60003a452158) => (4, 0x60003a452150) => (m0, 0x700002a66cd4)
    => (pc, 0x70001fc8af24) ∷
    row 945 0x67e882a029f5 with (4, 0x6000023be45c) => (4, 0x6000023be454) => (m0, 0x700013c186ff)
    => (pc, 0x700008eb2781) ∷
    row 946 0x67e8693334b3 with (4, 0x600025db7f86) => (4, 0x600025db7f7e) => (m0, 0x700000857951)
    => (pc, 0x6fffb3b9acba) ∷
    row 947 0x67e86ab695ce with (4, 0x60002523f2d8) => (4, 0x60002523f2d0) => (m0, 0x700008f243cb)
    => (pc, 0x6fffd787fa35) ∷
    row 948 0x67e887450c68 with (4, 0x600000153e51) => (4, 0x600000153e49) => (m0, 0x70002d07e66c)
    => (pc, 0x700095142bf3) ∷
    row 949 0x67e84d7ddfa5 with (4, 0x600036af61f2) => (4, 0x600036af61ea) => (m0, 0x70002cc66135)
    => (pc, 0x6fffd2a5de82) ∷
    row 950 0x67e8799a4b5d with (4, 0x600008f25dba) => (4, 0x600008f25db2) => (m0, 0x7000082db424)
    => (pc, 0x700065794e9d) ∷
    row 951 0x67e89a5668a6 with (4, 0x600036de31a9) => (4, 0x600036de31a1) => (m0, 0x70003f3ddf3b)
    => (pc, 0x6fffe5a635d5) ∷
    row 952 0x67e8d935f349 with (4, 0x60000072ddbf) => (4, 0x60000072ddb7) => (m0, 0x700011f6e279)
    => (pc, 0x70005bea1852) ∷
    row 953 0x67e88f3b21dd with (4, 0x600025b061fc) => (4, 0x600025b061f4) => (m0, 0x70000058bdde)
    => (pc, 0x6fffdd79f96d) ∷
    row 954 0x67e8397b5d0a with (4, 0x60002696be61) => (4, 0x60002696be59) => (m0, 0x70000a63716b)
    => (pc, 0x700014c0eca4) ∷
    row 955 0x67e800a72a69 with (4, 0x60000325f2ed) => (4, 0x60000325f2e5) => (m0, 0x70003016fd1f)
    => (pc, 0x70009941a41f) ∷
    row 956 0x67e8d90fec3b with (4, 0x60003b5dffa1) => (4, 0x60003b5dff99) => (m0, 0x7000317360fa)
    => (pc, 0x70006d5f70d3) ∷
    row 957 0x67e8d19edfb7 with (4, 0x60000f3ee47b) => (4, 0x60000f3ee473) => (m0, 0x70000e789cfd)
    => (pc, 0x6fffc6583bce) ∷
    row 958 0x67e87a9b5890 with (4, 0x60003ec8a17d) => (4, 0x60003ec8a175) => (m0, 0x70000726b126)
    => (pc, 0x6fff977f4ca0) ∷
    row 959 0x67e8fad771b3 with (4, 0x600009fb36a6) => (4, 0x600009fb369e) => (m0, 0x70001b7d9d77)
    => (pc, 0x6fffceef7571) ∷
    row 960 0x67e88946b590 with (4, 0x600030d6a3f7) => (4, 0x600030d6a3ef) => (m0, 0x70000b7d61f0)
    => (pc, 0x6fff9c32a879) ∷
    []) ∷
    -- call
    group 0x8d5 (
    row 961 0xe800000000 with (4, 0x6000335ae96e) => (4, 0x6000335ae966) => (m0, 0x70001725fe8e) ∷
    row 962 0xe800000080 with (4, 0x60001188070d) => (4, 0x600011880705) => (m0, 0x70003e777355)
    => (pc, 0x6fffbe777355) ∷
    row 963 0xe801000000 with (4, 0x60000b5dfcd4) => (4, 0x60000b5dfccc) => (m0, 0x70000171c043)
    => (pc, 0x70000171c044) ∷
    row 964 0xe8ffffff7f with (4, 0x600020dccac1) => (4, 0x600020dccab9) => (m0, 0x70002014e558)
    => (pc, 0x7000a014e557) ∷
    row 965 0xe8ffffffff with (4, 0x6000120470d6) => (4, 0x6000120470ce) => (m0, 0x70001a60e295)
    => (pc, 0x70001a60e294) ∷
    row 966 0xe801000000 with (4, 0x60001ed4ef12) => (4, 0x60001ed4ef0a) => (m0, 0x70003055b7f9)
    => (pc, 0x70003055b7fa) ∷
    row 967 0xe8ffffff7f with (4, 0x6000074e4575) => (4, 0x6000074e456d) => (m0, 0x700021f36584)
    => (pc, 0x7000a1f36583) ∷
    row 968 0xe8ffffffff with (4, 0x60000b707400) => (4, 0x60000b7073f8) => (m0, 0x70002f39eb37)
    => (pc, 0x70002f39eb36) ∷
    row 969 0xe800000000 with (4, 0x60002b3b7ab2) => (4, 0x60002b3b7aaa) => (m0, 0x700018294910) ∷
    row 970 0xe800000080 with (4, 0x600026af598b) => (4, 0x600026af5983) => (m0, 0x70001cc17f11)
    => (pc, 0x6fff9cc17f11) ∷
    row 971 0xe8ffffffff with (4, 0x60003dcc108b) => (4, 0x60003dcc1083) => (m0, 0x70003d028d3a)
    => (pc, 0x70003d028d39) ∷
    row 972 0xe800000000 with (4, 0x600030919fb3) => (4, 0x600030919fab) => (m0, 0x700038ec7389) ∷
    row 973 0xe800000080 with (4, 0x60003f000702) => (4, 0x60003f0006fa) => (m0, 0x7000107f3200)
    => (pc, 0x6fff907f3200) ∷
    row 974 0xe801000000 with (4, 0x600029174678) => (4, 0x600029174670) => (m0, 0x700003bac89e)
    => (pc, 0x700003bac89f) ∷
    row 975 0xe8ffffff7f with (4, 0x60002ed75e16) => (4, 0x60002ed75e0e) => (m0, 0x7000129f3763)
    => (pc, 0x7000929f3762) ∷
    row 976 0xe800000080 with (4, 0x600010404dda) => (4, 0x600010404dd2) => (m0, 0x70003d2c7e50)
    => (pc, 0x6fffbd2c7e50) ∷
    row 977 0xe801000000 with (4, 0x60000d5215c6) => (4, 0x60000d5215be) => (m0, 0x700003629d64)
    => (pc, 0x700003629d65) ∷
    row 978 0xe8ffffff7f with (4, 0x6000260cb5da) => (4, 0x6000260cb5d2) => (m0, 0x70002541949f)
    => (pc, 0x7000a541949e) ∷
    row 979 0xe8ffffffff with (4, 0x60001a702e14) => (4, 0x60001a702e0c) => (m0, 0x700022c96401)
    => (pc, 0x700022c96400) ∷
    row 980 0xe800000000 with (4, 0x60002a7c7e76) => (4, 0x60002a7c7e6e) => (m0, 0x70003bfa0b8b) ∷
    row 981 0xe8d2b620e6 with (4, 0x60001631a6ff) => (4, 0x60001631a6f7) => (m0, 0x700030d38b3c)
    => (pc, 0x700016f4420e) ∷
    row 982 0xe870ec2d2a with (4, 0x60001d8fa7b0) => (4, 0x60001d8fa7a8) => (m0, 0x70000155e314)
    => (pc, 0x70002b83cf84) ∷
    row 983 0xe8b8c2a6c1 with (4, 0x600000968087) => (4, 0x60000096807f) => (m0, 0x70002d811314)
    => (pc, 0x6fffef27d5cc) ∷
    row 984 0xe88e1d31b1 with (4, 0x60003f463186) => (4, 0x60003f46317e) => (m0, 0x700035551b3b)
    => (pc, 0x6fffe68638c9) ∷
    row 985 0xe8b668ded5 with (4, 0x6000199ebaad) => (4, 0x6000199ebaa5) => (m0, 0x700018d1fb89)
    => (pc, 0x6fffeeb0643f) ∷
    row 986 0xe8c52408d9 with (4, 0x60000fa01bfa) => (4, 0x60000fa01bf2) => (m0, 0x700017f7b3fe)
    => (pc, 0x6ffff0ffd8c3) ∷
    row 987 0xe8b10d39a7 with (4, 0x6000214a556f) => (4, 0x6000214a5567) => (m0, 0x700032c6449b)
    => (pc, 0x6fffd9ff524c) ∷
    row 988 0xe8ba668606 with (4, 0x60000e9d670b) => (4, 0x60000e9d6703) => (m0, 0x7000293dad5f)
    => (pc, 0x70002fc41419) ∷
    row 989 0xe800269faa with (4, 0x6000179950ce) => (4, 0x6000179950c6) => (m0, 0x70003b5dee4a)
    => (pc, 0x6fffe5fd144a) ∷
    row 990 0xe8c43fb34c with (4, 0x60003c3e12b9) => (4, 0x60003c3e12b1) => (m0, 0x70002927075c)
    => (pc, 0x700075da4720) ∷
    row 991 0xe8ef4a4cde with (4, 0x60003c8baccb) => (4, 0x60003c8bacc3) => (m0, 0x70003298f896)
    => (pc, 0x700010e54385) ∷
    row 992 0xe8f4e9207f with (4, 0x600018821f04) => (4, 0x600018821efc) => (m0, 0x700017b3c1f7)
    => (pc, 0x700096d4abeb) ∷
    row 993 0xe8ab2a6399 with (4, 0x600010216964) => (4, 0x60001021695c) => (m0, 0x70001877637f)
    => (pc, 0x6fffb1da8e2a) ∷
    row 994 0xe8603640b6 with (4, 0x600023698bec) => (4, 0x600023698be4) => (m0, 0x700034e3dd2f)
    => (pc, 0x6fffeb24138f) ∷
    row 995 0xe8018d0a24 with (4, 0x6000125a869b) => (4, 0x6000125a8693) => (m0, 0x70002cf92f05)
    => (pc, 0x70005103bc06) ∷
    row 996 0xe802ae0795 with (4, 0x60001cf45971) => (4, 0x60001cf45969) => (m0, 0x700000b75903)
    => (pc, 0x6fff95bf0705) ∷
    row 997 0xe8c14424bf with (4, 0x60000337046e) => (4, 0x600003370466) => (m0, 0x7000301e5b29)
    => (pc, 0x6fffef429fea) ∷
    row 998 0xe851fc7f48 with (4, 0x600005228793) => (4, 0x60000522878b) => (m0, 0x70003b2e3575)
    => (pc, 0x700083ae31c6) ∷
    row 999 0xe897706b01 with (4, 0x600022b6e2df) => (4, 0x600022b6e2d7) => (m0, 0x700021e6e7e9)
    => (pc, 0x700023525880) ∷
    row 1000 0xe85d21cd27 with (4, 0x60001bf41652) => (4, 0x60001bf4164a) => (m0, 0x700024487284)
    => (pc, 0x70004c1593e1) ∷
    []) ∷
    -- jmp
    group 0x8d5 (
    row 1001 0xe900000000 ∷
    row 1002 0xe900000080 => (pc, 0x6fffbc061030) ∷
    row 1003 0xe901000000 => (pc, 0x700011622342) ∷
    row 1004 0xe9ffffff7f => (pc, 0x700082670e78) ∷
    row 1005 0xe9ffffffff => (pc, 0x70000f14d1d8) ∷
    row 1006 0xe901000000 => (pc, 0x7000376b6d61) ∷
    row 1007 0xe9ffffff7f => (pc, 0x7000bb6ae10d) ∷
    row 1008 0xe9ffffffff => (pc, 0x70001b132ce2) ∷
    row 1009 0xe900000000 ∷
    row 1010 0xe900000080 => (pc, 0x6fffad5e4d03) ∷
    row 1011 0xe9ffffffff => (pc, 0x70002001214e) ∷
    row 1012 0xe900000000 ∷
    row 1013 0xe900000080 => (pc, 0x6fff9841525b) ∷
    row 1014 0xe901000000 => (pc, 0x70001ddeaf1d) ∷
    row 1015 0xe9ffffff7f => (pc, 0x7000bf24e403) ∷
    row 1016 0xe900000080 => (pc, 0x6fffbc13f113) ∷
    row 1017 0xe901000000 => (pc, 0x700014abd64b) ∷
    row 1018 0xe9ffffff7f => (pc, 0x700088ec93a7) ∷
    row 1019 0xe9ffffffff => (pc, 0x700018d6292c) ∷
    row 1020 0xe900000000 ∷
    row 1021 0xe95c48bc7a => (pc, 0x70008660250a) ∷
    row 1022 0xe9a4bf82e7 => (pc, 0x7000160aba4d) ∷
    row 1023 0xe9be56b42c => (pc, 0x700059c94789) ∷
    row 1024 0xe9150d3ba3 => (pc, 0x6fffaa85cc2a) ∷
    row 1025 0xe971fe8f5f => (pc, 0x70009cb963f7) ∷
    row 1026 0xe99b039909 => (pc, 0x70001849e7b9) ∷
    row 1027 0xe9bd6d10a0 => (pc, 0x6fffdbf1a89a) ∷
    row 1028 0xe97e44e287 => (pc, 0x6fff8c9cae42) ∷
    row 1029 0xe990cf9d6b => (pc, 0x700094da4062) ∷
    row 1030 0xe9e6891f0b => (pc, 0x70003486d9ed) ∷
    row 1031 0xe975a05267 => (pc, 0x70006c8da7d9) ∷
    row 1032 0xe98d430601 => (pc, 0x70003dbdda75) ∷
    row 1033 0xe951070a10 => (pc, 0x70001fe705e4) ∷
    row 1034 0xe9237f9b44 => (pc, 0x70008346bd88) ∷
    row 1035 0xe90e2a8507 => (pc, 0x700010a7806d) ∷
    row 1036 0xe9efa04129 => (pc, 0x70005883e76f) ∷
    row 1037 0xe9dd50fb89 => (pc, 0x6fffbb065fa5) ∷
    row 1038 0xe973298c0b => (pc, 0x70001a08d8aa) ∷
    row 1039 0xe9420196dd => (pc, 0x6fffe52d2910) ∷
    row 1040 0xe91508d996 => (pc, 0x6fffb33380a1) ∷
    []) ∷
    -- lea of a register
    group 0x8d5 (
    row 1041 0x488d8600000000 with (0, 0) with (6, 0) ∷
    row 1042 0x488db000000080 with (0, 0x8000000000000000) with (6, 1) => (6, 0x7fffffff80000000) ∷
    row 1043 0x4c8db801000000 with (0, 0x7fffffff) with (15, 0xffffffffffffffff) => (15, 0x80000000)
    ∷
    row 1044 0x4c8dbeffffff7f with (6, 0xffffffff80000000) with (15, 0x8000000000000000)
    => (15, 0xffffffffffffffff) ∷
    row 1045 0x4c8d95ffffffff with (5, 0xffffffffffffffff) with (10, 0x7fffffffffffffff)
    => (10, 0xfffffffffffffffe) ∷
    row 1046 0x488d8a01000000 with (1, 0x80000000) with (2, 0x80000000) => (1, 0x80000001) ∷
    row 1047 0x498d89ffffff7f with (1, 0x7fffffff) with (9, 0xffffffff7fffffff)
    => (1, 0xfffffffffffffffe) ∷
    row 1048 0x418db6ffffffff with (6, 0xffffffff) with (14, 1) => (6, 0) ∷
    row 1049 0x488da100000000 with (1, 0x7fffffffffffffff) with (4, 0xffffffff7fffffff)
    => (4, 0x7fffffffffffffff) ∷
    row 1050 0x418db500000080 with (6, 0xffffffff80000000) with (13, 0xffffffff) => (6, 0x7fffffff)
    ∷
    row 1051 0x418daaffffffff with (5, 1) with (10, 1) => (5, 0) ∷
    row 1052 0x408da800000000 with (0, 0x7fffffffffffffff) with (5, 0xffffffffffffffff)
    => (5, 0xffffffff) ∷
    row 1053 0x458d9700000080 with (10, 0x8000000000000000) with (15, 0xffffffff)
    => (10, 0x7fffffff) ∷
    row 1054 0x448d9601000000 with (6, 0) with (10, 0x7fffffffffffffff) => (10, 1) ∷
    row 1055 0x498d91ffffff7f with (2, 0x80000000) with (9, 0x8000000000000000)
    => (2, 0x800000007fffffff) ∷
    row 1056 0x4c8d9a00000080 with (2, 0x7fffffff) with (11, 0x7fffffff) => (11, 0xffffffffffffffff)
    ∷
    row 1057 0x4d8d9601000000 with (10, 0xffffffff) with (14, 0xffffffff80000000)
    => (10, 0xffffffff80000001) ∷
    row 1058 0x418dbaffffff7f with (7, 0xffffffff7fffffff) with (10, 0xffffffffffffffff)
    => (7, 0x7ffffffe) ∷
    row 1059 0x498d96ffffffff with (2, 0xffffffff80000000) with (14, 0x80000000) => (2, 0x7fffffff)
    ∷
    row 1060 0x4d8d8800000000 with (8, 0xffffffff7fffffff) with (9, 0) => (9, 0xffffffff7fffffff) ∷
    row 1061 0x408d91b9120d1d => (2, 0x18521d1f) ∷
    row 1062 0x448da6708a6a17 => (12, 0x34ffbc0e) ∷
    row 1063 0x488dba6a7e7bfc => (7, 0x8ae878e0efa5a35d) ∷
    row 1064 0x418d9d1566f965 => (3, 0x8925f80a) ∷
    row 1065 0x418da9d74c8e04 => (5, 0xacc5d320) ∷
    row 1066 0x498d9f2c52dd3b => (3, 0x8df842a18289af73) ∷
    row 1067 0x448d93abbca1be => (10, 0x6e87f7f0) ∷
    row 1068 0x4d8dabb6fd690b => (13, 0xb31eb28f1b97c654) ∷
    row 1069 0x4c8d93336c8147 => (10, 0xe6032b6589592435) ∷
    row 1070 0x488da72178f238 => (4, 0xb7f40e508af839bd) ∷
    row 1071 0x418d93665c987e => (2, 0xeac00113) ∷
    row 1072 0x418db914104539 => (7, 0xe12272f0) ∷
    row 1073 0x4d8dbf2d6d525e => (15, 0x6b32b9cc264c4391) ∷
    row 1074 0x448d950cc3138f => (10, 0xc89d8c84) ∷
    row 1075 0x408d97371012f8 => (2, 0xce73ba01) ∷
    row 1076 0x458da066df3ede => (12, 0x6bb75c0c) ∷
    row 1077 0x4c8d914203d158 => (10, 0x99f41b02c2ba5afa) ∷
    row 1078 0x4d8d83d97985f4 => (8, 0xa647b650ea09ad5c) ∷
    row 1079 0x488d83978ae4c0 => (0, 0xd0647b8458065b7b) ∷
    row 1080 0x4c8da95cc6c9b7 => (13, 0x4dbb5483babdfcf3) ∷
    []) ∷
    -- mov %fs:
    group 0x8d5 (
    row 1081 0x64488b242500000000 with (4, 0) with (16, 0x600009ad7340) => (4, 0x721876d0d475b6e3) ∷
    row 1082 0x64488b342500000080 with (6, 1) with (16, 0x60009effe348) => (6, 0x9d214bfbd77ddab2) ∷
    row 1083 0x644c8b2c2501000000 with (13, 0xffffffffffffffff) with (16, 0x60000ffb2b75)
    => (13, 0x6bda7f87b62ed6a8) ∷
    row 1084 0x64488b1425ffffff7f with (2, 0x8000000000000000) with (16, 0x5fff9c9f4bcd)
    => (2, 0xa343c5a07088aac5) ∷
    row 1085 0x64488b1425ffffffff with (2, 0x7fffffffffffffff) with (16, 0x600004ec444b)
    => (2, 0x8497be1a068b570a) ∷
    row 1086 0x644c8b042501000000 with (8, 0x80000000) with (16, 0x600008e214ed)
    => (8, 0xc86175207836db75) ∷
    row 1087 0x644c8b0425ffffff7f with (8, 0x7fffffff) with (16, 0x5fffa880bdbb)
    => (8, 0xbc503287c58b3808) ∷
    row 1088 0x644c8b0c25ffffffff with (9, 0xffffffff) with (16, 0x600023c83eae)
    => (9, 0x7b1ae765ee886cc3) ∷
    row 1089 0x644c8b042500000000 with (8, 0xffffffff7fffffff) with (16, 0x60003ab897c8)
    => (8, 0x1303dcd0f32e79a5) ∷
    row 1090 0x64488b0c2500000080 with (1, 0xffffffff80000000) with (16, 0x6000ad51c90a)
    => (1, 0xe469569cd37d5ead) ∷
    row 1091 0x64488b0425ffffffff with (0, 1) with (16, 0x60003b93d274) => (0, 0x88b2bcf58f751bde) ∷
    row 1092 0x64488b1c2500000000 with (3, 0xffffffffffffffff) with (16, 0x6000257eb403)
    => (3, 0x6cb2fbaf2715b135) ∷
    row 1093 0x644c8b1c2500000080 with (11, 0x8000000000000000) with (16, 0x6000ab126dba)
    => (11, 0x1d5cd2f59a5f1eb4) ∷
    row 1094 0x64488b1c2501000000 with (3, 0x7fffffffffffffff) with (16, 0x60000c4eff98)
    => (3, 0x13f7d69ce951645a) ∷
    row 1095 0x64488b0c25ffffff7f with (1, 0x80000000) with (16, 0x5fff893469a0)
    => (1, 0xd56ed1bb13ec8227) ∷
    row 1096 0x64488b342500000080 with (6, 0x7fffffff) with (16, 0x6000a1c2abcc)
    => (6, 0xda37e7661a30781c) ∷
    row 1097 0x644c8b0c2501000000 with (9, 0xffffffff) with (16, 0x600015f9c620)
    => (9, 0xae49a771fc1d4638) ∷
    row 1098 0x64488b3425ffffff7f with (6, 0xffffffff7fffffff) with (16, 0x5fffa5d9b89e)
    => (6, 0xbf732e0ab9b2ec7b) ∷
    row 1099 0x64488b1425ffffffff with (2, 0xffffffff80000000) with (16, 0x600011628341)
    => (2, 0xa61fb30452f16ae5) ∷
    row 1100 0x64488b2c2500000000 with (5, 0) with (16, 0x60001894260a) => (5, 0x57a82f74c7d8c177) ∷
    row 1101 0x644c8b1c25b1452a3f with (16, 0x5ffffc445b4b) => (11, 0xbcf0f4721868f030) ∷
    row 1102 0x64488b0c2525e0892e with (16, 0x60000b6813f0) => (1, 0x811435d044a1f710) ∷
    row 1103 0x64488b2425577f6c1d with (16, 0x5ffff6b19ffe) => (4, 0xf2bd6bbb4c83d617) ∷
    row 1104 0x64488b2c25f543289d with (16, 0x60006ccadec8) => (5, 0xc97b7207300e8d46) ∷
    row 1105 0x64488b14257983d734 with (16, 0x5fffe6997ad3) => (2, 0x478518dfef421c9c) ∷
    row 1106 0x644c8b042551a2f887 with (16, 0x6000809f0fb1) => (8, 0x30dde4198a1e8419) ∷
    row 1107 0x644c8b1c257c4e834b with (16, 0x5fffc5e3ef63) => (11, 0xe512a6ca00a3c3be) ∷
    row 1108 0x64488b1c254bbf615a with (16, 0x5fffdb7de299) => (3, 0xb73b8c0752d1db8a) ∷
    row 1109 0x644c8b3c25b66577ca with (16, 0x60006b897859) => (15, 0x7e0b13a580a8cb7d) ∷
    row 1110 0x644c8b34255da48f57 with (16, 0x5fffba3b4e05) => (14, 0x5c9469d08a289397) ∷
    row 1111 0x64488b1c25503db298 with (16, 0x6000708ba18d) => (3, 0x35feb65c6f5133d9) ∷
    row 1112 0x64488b142595251fc1 with (16, 0x60005b3a7dea) => (2, 0x20e87d753022ac42) ∷
    row 1113 0x644c8b042552e6cfd8 with (16, 0x6000324e59f5) => (8, 0xced8eeecc9cfcd2) ∷
    row 1114 0x64488b0c25f00305e2 with (16, 0x60003386b148) => (1, 0xc3ce97df44c02589) ∷
    row 1115 0x64488b3c25940d529e with (16, 0x60009d4ff4bb) => (7, 0x2d79d5c988c2668) ∷
    row 1116 0x64488b1c2529134dc1 with (16, 0x60007c141465) => (3, 0xcc536b3ac800ff6e) ∷
    row 1117 0x64488b1c25a0d33b72 with (16, 0x5fffa88d5154) => (3, 0x17bce1a5d31eb09b) ∷
    row 1118 0x644c8b1c258b06c04f with (16, 0x5fffc419f3f6) => (11, 0xf3d37471b9e539f0) ∷
    row 1119 0x64488b34250140c453 with (16, 0x5fffd4cf6835) => (6, 0x4b9d5bca7c549b6b) ∷
    row 1120 0x64488b1425941cdd3d with (16, 0x5fffdb19117e) => (2, 0x3a4eb3841a6cd50f) ∷
    []) ∷
    -- nop
    group 0x8d5 (
    row 1121 0x90 ∷
    row 1122 0x90 ∷
    row 1123 0x90 ∷
    row 1124 0x90 ∷
    []) ∷
    -- push $
    group 0x8d5 (
    row 1125 0x6800000000 with (4, 0x600029c775aa) => (4, 0x600029c775a2) => (m0, 0) ∷
    row 1126 0x6800000080 with (4, 0x6000001f0c71) => (4, 0x6000001f0c69)
    => (m0, 0xffffffff80000000) ∷
    row 1127 0x6801000000 with (4, 0x6000321f7b60) => (4, 0x6000321f7b58) => (m0, 1) ∷
    row 1128 0x68ffffff7f with (4, 0x60003fc8c276) => (4, 0x60003fc8c26e) => (m0, 0x7fffffff) ∷
    row 1129 0x68ffffffff with (4, 0x6000291ae1b3) => (4, 0x6000291ae1ab)
    => (m0, 0xffffffffffffffff) ∷
    row 1130 0x6801000000 with (4, 0x60002e15d918) => (4, 0x60002e15d910) => (m0, 1) ∷
    row 1131 0x68ffffff7f with (4, 0x60000eb9a8a4) => (4, 0x60000eb9a89c) => (m0, 0x7fffffff) ∷
    row 1132 0x68ffffffff with (4, 0x60000b065057) => (4, 0x60000b06504f)
    => (m0, 0xffffffffffffffff) ∷
    row 1133 0x6800000000 with (4, 0x600022fbd031) => (4, 0x600022fbd029) => (m0, 0) ∷
    row 1134 0x6800000080 with (4, 0x6000169a2833) => (4, 0x6000169a282b)
    => (m0, 0xffffffff80000000) ∷
    row 1135 0x68ffffffff with (4, 0x600025e1585c) => (4, 0x600025e15854)
    => (m0, 0xffffffffffffffff) ∷
    row 1136 0x6800000000 with (4, 0x600010d160ac) => (4, 0x600010d160a4) => (m0, 0) ∷
    row 1137 0x6800000080 with (4, 0x6000176a4123) => (4, 0x6000176a411b)
    => (m0, 0xffffffff80000000) ∷
    row 1138 0x6801000000 with (4, 0x600039abf9c2) => (4, 0x600039abf9ba) => (m0, 1) ∷
    row 1139 0x68ffffff7f with (4, 0x600037968a88) => (4, 0x600037968a80) => (m0, 0x7fffffff) ∷
    row 1140 0x6800000080 with (4, 0x60001129f375) => (4, 0x60001129f36d)
    => (m0, 0xffffffff80000000) ∷
    row 1141 0x6801000000 with (4, 0x60000666348a) => (4, 0x600006663482) => (m0, 1) ∷
    row 1142 0x68ffffff7f with (4, 0x6000174b4dc6) => (4, 0x6000174b4dbe) => (m0, 0x7fffffff) ∷
    row 1143 0x68ffffffff with (4, 0x600003d93f29) => (4, 0x600003d93f21)
    => (m0, 0xffffffffffffffff) ∷
    row 1144 0x6800000000 with (4, 0x60000c1008b3) => (4, 0x60000c1008ab) => (m0, 0) ∷
    row 1145 0x68c24c6b20 with (4, 0x60002fefaa65) => (4, 0x60002fefaa5d) => (m0, 0x206b4cc2) ∷
    row 1146 0x68d93ed7bf with (4, 0x60002f78243e) => (4, 0x60002f782436)
    => (m0, 0xffffffffbfd73ed9) ∷
    row 1147 0x689e5b5f76 with (4, 0x60000aa9763e) => (4, 0x60000aa97636) => (m0, 0x765f5b9e) ∷
    row 1148 0x6832f444d2 with (4, 0x60000183a065) => (4, 0x60000183a05d)
    => (m0, 0xffffffffd244f432) ∷
    row 1149 0x68055b9ae7 with (4, 0x60001406a2b4) => (4, 0x60001406a2ac)
    => (m0, 0xffffffffe79a5b05) ∷
    row 1150 0x68199d393e with (4, 0x600002327d2a) => (4, 0x600002327d22) => (m0, 0x3e399d19) ∷
    row 1151 0x68c0f3224a with (4, 0x60000c072fc7) => (4, 0x60000c072fbf) => (m0, 0x4a22f3c0) ∷
    row 1152 0x688f17d973 with (4, 0x60003184ba8c) => (4, 0x60003184ba84) => (m0, 0x73d9178f) ∷
    row 1153 0x684d380413 with (4, 0x600032ab1d77) => (4, 0x600032ab1d6f) => (m0, 0x1304384d) ∷
    row 1154 0x681e51ab10 with (4, 0x60000f7a588a) => (4, 0x60000f7a5882) => (m0, 0x10ab511e) ∷
    row 1155 0x686ee8e357 with (4, 0x600007f26bc5) => (4, 0x600007f26bbd) => (m0, 0x57e3e86e) ∷
    row 1156 0x68160088c4 with (4, 0x60001c135726) => (4, 0x60001c13571e)
    => (m0, 0xffffffffc4880016) ∷
    row 1157 0x6854ad5ae9 with (4, 0x60000bdd1aaf) => (4, 0x60000bdd1aa7)
    => (m0, 0xffffffffe95aad54) ∷
    row 1158 0x682008f8bc with (4, 0x6000174fb65f) => (4, 0x6000174fb657)
    => (m0, 0xffffffffbcf80820) ∷
    row 1159 0x681c321198 with (4, 0x60003e6b2a37) => (4, 0x60003e6b2a2f)
    => (m0, 0xffffffff9811321c) ∷
    row 1160 0x683bf4506d with (4, 0x6000012f7635) => (4, 0x6000012f762d) => (m0, 0x6d50f43b) ∷
    row 1161 0x6853456796 with (4, 0x60001f9c9a5b) => (4, 0x60001f9c9a53)
    => (m0, 0xffffffff96674553) ∷
    row 1162 0x68c4d72005 with (4, 0x600019b296a9) => (4, 0x600019b296a1) => (m0, 0x520d7c4) ∷
    row 1163 0x684fc7a9e7 with (4, 0x60002f716b1d) => (4, 0x60002f716b15)
    => (m0, 0xffffffffe7a9c74f) ∷
    row 1164 0x68828e5509 with (4, 0x600020d917b9) => (4, 0x600020d917b1) => (m0, 0x9558e82) ∷
    []) ∷
    -- push
    group 0x8d5 (
    row 1165 0xff354fba5148 with (4, 0x700062fbdfad) with (6, 0) with (m1, 0)
    with (at, 0x700062fbdfa5) => (4, 0x700062fbdfa5) => (m0, 0) ∷
    row 1166 0xff3500000080 with (4, 0x6fff8c87d970) with (7, 1) with (m1, 0xffffffff)
    with (at, 0x6fff8c87d968) => (4, 0x6fff8c87d968) => (m0, 0xffffffff) ∷
    row 1167 0xff358f7e012f with (4, 0x7000490fe438) with (6, 0xffffffffffffffff)
    with (m1, 0x7fffffffffffffff) with (at, 0x7000490fe430) => (4, 0x7000490fe430)
    => (m0, 0x7fffffffffffffff) ∷
    row 1168 0xff35ffffff7f with (1, 0x8000000000000000) with (4, 0x7000833dca09) with (m1, 1)
    with (at, 0x7000833dca01) => (4, 0x7000833dca01) => (m0, 1) ∷
    row 1169 0xff35ae5ffb06 with (1, 0x7fffffffffffffff) with (4, 0x70000f116640)
    with (m1, 0xffffffff7fffffff) with (at, 0x70000f116638) => (4, 0x70000f116638)
    => (m0, 0xffffffff7fffffff) ∷
    row 1170 0xff3501f44c51 with (3, 0x80000000) with (4, 0x700079e40f42) with (m1, 0x80000000)
    with (at, 0x700079e40f3a) => (4, 0x700079e40f3a) => (m0, 0x80000000) ∷
    row 1171 0xff35ffffff7f with (2, 0x7fffffff) with (4, 0x7000a4c10817)
    with (m1, 0xffffffffffffffff) with (at, 0x7000a4c1080f) => (4, 0x7000a4c1080f)
    => (m0, 0xffffffffffffffff) ∷
    row 1172 0xff35fa557065 with (1, 0xffffffff) with (4, 0x7000a204230f)
    with (m1, 0xffffffff80000000) with (at, 0x7000a2042307) => (4, 0x7000a2042307)
    => (m0, 0xffffffff80000000) ∷
    row 1173 0xff353cf7d01f with (0, 0xffffffff7fffffff) with (4, 0x70004fe06176)
    with (m1, 0x7fffffff) with (at, 0x70004fe0616e) => (4, 0x70004fe0616e) => (m0, 0x7fffffff) ∷
    row 1174 0xff3500000080 with (3, 0xffffffff80000000) with (4, 0x6fffbf33df87)
    with (m1, 0x8000000000000000) with (at, 0x6fffbf33df7f) => (4, 0x6fffbf33df7f)
    => (m0, 0x8000000000000000) ∷
    row 1175 0xff35ebd4ec2c with (0, 1) with (4, 0x700056ee01e5) with (m1, 1)
    with (at, 0x700056ee01dd) => (4, 0x700056ee01dd) => (m0, 1) ∷
    row 1176 0xff3561f83024 with (2, 0xffffffffffffffff) with (4, 0x700054a84af6)
    with (m1, 0xffffffff7fffffff) with (at, 0x700054a84aee) => (4, 0x700054a84aee)
    => (m0, 0xffffffff7fffffff) ∷
    row 1177 0xff3500000080 with (2, 0x8000000000000000) with (4, 0x6fff92965057)
    with (m1, 0x80000000) with (at, 0x6fff9296504f) => (4, 0x6fff9296504f) => (m0, 0x80000000) ∷
    row 1178 0xff35779ddb36 with (1, 0x7fffffffffffffff) with (4, 0x70004739c3b8)
    with (m1, 0xffffffffffffffff) with (at, 0x70004739c3b0) => (4, 0x70004739c3b0)
    => (m0, 0xffffffffffffffff) ∷
    row 1179 0xff35ffffff7f with (4, 0x7000a9ced450) with (5, 0x80000000)
    with (m1, 0xffffffff80000000) with (at, 0x7000a9ced448) => (4, 0x7000a9ced448)
    => (m0, 0xffffffff80000000) ∷
    row 1180 0xff3500000080 with (0, 0x7fffffff) with (4, 0x6fff9ee85a89) with (m1, 0x7fffffff)
    with (at, 0x6fff9ee85a81) => (4, 0x6fff9ee85a81) => (m0, 0x7fffffff) ∷
    row 1181 0xff3507d23057 with (4, 0x700086db8af0) with (m1, 0x8000000000000000)
    with (at, 0x700086db8ae8) => (4, 0x700086db8ae8) => (m0, 0x8000000000000000) ∷
    row 1182 0xff35ffffff7f with (4, 0x70009c15ef6e) with (m1, 0) with (at, 0x70009c15ef66)
    => (4, 0x70009c15ef66) => (m0, 0) ∷
    row 1183 0xff35c3b7c40c with (4, 0x700030eeb5e0) with (5, 0xffffffff80000000)
    with (m1, 0xffffffff) with (at, 0x700030eeb5d8) => (4, 0x700030eeb5d8) => (m0, 0xffffffff) ∷
    row 1184 0xff353993667c with (2, 0) with (4, 0x7000844d782b) with (m1, 0x7fffffffffffffff)
    with (at, 0x7000844d7823) => (4, 0x7000844d7823) => (m0, 0x7fffffffffffffff) ∷
    row 1185 0xff35b0a7d861 with (4, 0x700069254b9e) with (at, 0x700069254b96)
    => (4, 0x700069254b96) => (m0, 0x8c1ee9ddc04e9883) ∷
    row 1186 0xff3512292c32 with (4, 0x700054876424) with (at, 0x70005487641c)
    => (4, 0x70005487641c) => (m0, 0x53a7ff51ffee8c46) ∷
    row 1187 0xff35fdf82e3e with (4, 0x70005741a35a) with (at, 0x70005741a352)
    => (4, 0x70005741a352) => (m0, 0x2ba83271b375830) ∷
    row 1188 0xff356dcfaf62 with (4, 0x70008e22c13c) with (at, 0x70008e22c134)
    => (4, 0x70008e22c134) => (m0, 0xd6a409891228fc42) ∷
    row 1189 0xff358cd078a2 with (4, 0x6fffbbf4e1f4) with (at, 0x6fffbbf4e1ec)
    => (4, 0x6fffbbf4e1ec) => (m0, 0x9851524be4c3787a) ∷
    row 1190 0xff35e66627ca with (4, 0x6fffed55700f) with (at, 0x6fffed557007)
    => (4, 0x6fffed557007) => (m0, 0x789b499b9306ccda) ∷
    row 1191 0xff358c530fa0 with (4, 0x6fffa8982c9d) with (at, 0x6fffa8982c95)
    => (4, 0x6fffa8982c95) => (m0, 0x4ce3574c1cf2f962) ∷
    row 1192 0xff35d2b820a7 with (4, 0x6fffb0ad39f2) with (at, 0x6fffb0ad39ea)
    => (4, 0x6fffb0ad39ea) => (m0, 0xec075c738287fe10) ∷
    row 1193 0xff35c9fffea2 with (4, 0x6fffc9380120) with (at, 0x6fffc9380118)
    => (4, 0x6fffc9380118) => (m0, 0x20709227c3c5dae6) ∷
    row 1194 0xff35b12c248e with (4, 0x6fffacb28665) with (at, 0x6fffacb2865d)
    => (4, 0x6fffacb2865d) => (m0, 0xd22f5c3ce0ac8fe3) ∷
    row 1195 0xff35e72dd6e9 with (4, 0x70001c62b820) with (at, 0x70001c62b818)
    => (4, 0x70001c62b818) => (m0, 0x12f902ded93c1d08) ∷
    row 1196 0xff35b3463fbf with (4, 0x6fffe172d999) with (at, 0x6fffe172d991)
    => (4, 0x6fffe172d991) => (m0, 0xd75291e1ad748253) ∷
    row 1197 0xff35d7837c25 with (4, 0x700052fff790) with (at, 0x700052fff788)
    => (4, 0x700052fff788) => (m0, 0x247ca9715d55bfc6) ∷
    row 1198 0xff3566b82ad9 with (4, 0x6fffeda6e51a) with (at, 0x6fffeda6e512)
    => (4, 0x6fffeda6e512) => (m0, 0xfb70fd61e8dfd561) ∷
    row 1199 0xff35f344e079 with (4, 0x700090fe02c9) with (at, 0x700090fe02c1)
    => (4, 0x700090fe02c1) => (m0, 0x9d4148c95012c322) ∷
    row 1200 0xff3510b5ce1b with (4, 0x70005136dc30) with (at, 0x70005136dc28)
    => (4, 0x70005136dc28) => (m0, 0x3e8a9ebd92ee890b) ∷
    row 1201 0xff35f4602bbb with (4, 0x6fffea86c984) with (at, 0x6fffea86c97c)
    => (4, 0x6fffea86c97c) => (m0, 0xf2f5af12b173271b) ∷
    row 1202 0xff3536076f19 with (4, 0x70001e66895e) with (at, 0x70001e668956)
    => (4, 0x70001e668956) => (m0, 0xa09f75f4aba09d52) ∷
    row 1203 0xff35b1420aab with (4, 0x6fffe146b698) with (at, 0x6fffe146b690)
    => (4, 0x6fffe146b690) => (m0, 0x67a54b378176ebb1) ∷
    row 1204 0xff35fa127bfe with (4, 0x700001a550c8) with (at, 0x700001a550c0)
    => (4, 0x700001a550c0) => (m0, 0x21af830732f61237) ∷
    []) ∷
    -- endbr64
    group 0x8d5 (
    row 1205 0xf30f1efa ∷
    row 1206 0xf30f1efa ∷
    row 1207 0xf30f1efa ∷
    row 1208 0xf30f1efa ∷
    []) ∷
    []
