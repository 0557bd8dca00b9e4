-- What qemu-ppc64le made of instructions. `tools/oracle steps` makes this file.
use Rattle.std.specs.Prelude.{List, [], ◌∷◌}
use Rattle.linker_final.specs.Steps.{Functions, Group, at, functions, group, m0, m1, m2, m3, pc}
use Rattle.linker_final.specs.Steps.{row, ◌=>◌, ◌with◌}

unfoldable pub ppc64_groups : List Group
ppc64_groups =
    -- addi
    group 0x0 (
    row 1 0x39b80000 with (24, 0) => (13, 0) ∷
    row 2 0x38c0ffff with (0, 0x8000000000000000) => (6, 0xffffffffffffffff) ∷
    row 3 0x3a490001 with (9, 0x7fffffff) => (18, 0x80000000) ∷
    row 4 0x39fc8000 with (28, 0xffffffff80000000) => (15, 0xffffffff7fff8000) ∷
    row 5 0x3b9c7fff with (28, 0xffffffffffffffff) => (28, 0x7ffe) ∷
    row 6 0x3842ffff with (2, 0x80000000) => (2, 0x7fffffff) ∷
    row 7 0x38ce0001 with (14, 0xffffffff7fffffff) => (6, 0xffffffff80000000) ∷
    row 8 0x38218000 with (1, 1) => (1, 0xffffffffffff8001) ∷
    row 9 0x38f57fff with (21, 0x7fffffffffffffff) => (7, 0x8000000000007ffe) ∷
    row 10 0x39600000 with (0, 0xffffffff) => (11, 0) ∷
    row 11 0x38580001 with (24, 1) => (2, 2) ∷
    row 12 0x39d38000 with (19, 0x7fffffffffffffff) => (14, 0x7fffffffffff7fff) ∷
    row 13 0x3b617fff with (1, 0xffffffff) => (27, 0x100007ffe) ∷
    row 14 0x39ad0000 with (13, 0) ∷
    row 15 0x3911ffff with (17, 0x8000000000000000) => (8, 0x7fffffffffffffff) ∷
    row 16 0x395e8000 with (30, 0x7fffffff) => (10, 0x7fff7fff) ∷
    row 17 0x3b3f7fff with (31, 0xffffffff80000000) => (25, 0xffffffff80007fff) ∷
    row 18 0x39200000 with (0, 0xffffffffffffffff) => (9, 0) ∷
    row 19 0x38f3ffff with (19, 0x80000000) => (7, 0x7fffffff) ∷
    row 20 0x39d20001 with (18, 0xffffffff7fffffff) => (14, 0xffffffff80000000) ∷
    row 21 0x39a72bd9 => (13, 0x3688303e51f05373) ∷
    row 22 0x38a5e2bf => (5, 0x3e1d8ee37d4c7e7e) ∷
    row 23 0x3b64db4d => (27, 0x38201adf669abad5) ∷
    row 24 0x3a944cb0 => (20, 0xf970fd7a4eabaa10) ∷
    row 25 0x3836a908 => (1, 0x65431ab92de3eaf8) ∷
    row 26 0x39c0c76c => (14, 0xffffffffffffc76c) ∷
    row 27 0x389eff7d => (4, 0x305a27cd93da1e1f) ∷
    row 28 0x39a35718 => (13, 0xbb9e73336435969f) ∷
    row 29 0x3ab64289 => (21, 0x67fc7b36b4a1bf58) ∷
    row 30 0x398c16b8 => (12, 0xd475cd6ddd1f4334) ∷
    row 31 0x3aa514f4 => (21, 0x3bd2011906b6bf48) ∷
    row 32 0x39a945bc => (13, 0xa85e0be55f1c47a9) ∷
    row 33 0x38da8a45 => (6, 0xadb48740bc1332d) ∷
    row 34 0x384061de => (2, 0x61de) ∷
    row 35 0x398e2adf => (12, 0x3683e5d5896a9932) ∷
    row 36 0x3a1a764e => (16, 0xf2257fc41172f4f2) ∷
    row 37 0x38bb0de1 => (5, 0x42f9729830e1a84b) ∷
    row 38 0x38c6a9e6 => (6, 0x81690841842f1b0a) ∷
    row 39 0x39a30b23 => (13, 0xe81e3eae711330e) ∷
    row 40 0x3bffbae3 => (31, 0xfbd0eb3ed2345703) ∷
    []) ∷
    -- addis
    group 0x0 (
    row 41 0x3fdf0000 with (31, 0) => (30, 0) ∷
    row 42 0x3e20ffff with (0, 0x8000000000000000) => (17, 0xffffffffffff0000) ∷
    row 43 0x3f100001 with (16, 0x7fffffff) => (24, 0x8000ffff) ∷
    row 44 0x3dca8000 with (10, 0xffffffff80000000) => (14, 0xffffffff00000000) ∷
    row 45 0x3f627fff with (2, 0xffffffffffffffff) => (27, 0x7ffeffff) ∷
    row 46 0x3f5affff with (26, 0x80000000) => (26, 0x7fff0000) ∷
    row 47 0x3e330001 with (19, 0xffffffff7fffffff) => (17, 0xffffffff8000ffff) ∷
    row 48 0x3eb58000 with (21, 1) => (21, 0xffffffff80000001) ∷
    row 49 0x3ff07fff with (16, 0x7fffffffffffffff) => (31, 0x800000007ffeffff) ∷
    row 50 0x3fa00000 with (0, 0xffffffff) => (29, 0) ∷
    row 51 0x3fdb0001 with (27, 1) => (30, 0x10001) ∷
    row 52 0x3c848000 with (4, 0x7fffffffffffffff) => (4, 0x7fffffff7fffffff) ∷
    row 53 0x3f007fff with (0, 0xffffffff) => (24, 0x7fff0000) ∷
    row 54 0x3f7b0000 with (27, 0) ∷
    row 55 0x3fb7ffff with (23, 0x8000000000000000) => (29, 0x7fffffffffff0000) ∷
    row 56 0x3e238000 with (3, 0x7fffffff) => (17, 0xffffffffffffffff) ∷
    row 57 0x3eed7fff with (13, 0xffffffff80000000) => (23, 0xffffffffffff0000) ∷
    row 58 0x3c000000 with (0, 0xffffffffffffffff) => (0, 0) ∷
    row 59 0x3c4fffff with (15, 0x80000000) => (2, 0x7fff0000) ∷
    row 60 0x3f190001 with (25, 0xffffffff7fffffff) => (24, 0xffffffff8000ffff) ∷
    row 61 0x3e5e01d7 => (18, 0x45a95cb6cb95015c) ∷
    row 62 0x3cc63dc5 => (6, 0x8c170ac644f8a2cf) ∷
    row 63 0x3e3091ca => (17, 0xc7f9acb1188043f4) ∷
    row 64 0x3c424b02 => (2, 0xd9ec95cfae855d90) ∷
    row 65 0x3c7f0a60 => (3, 0xa7e52c3cdeb8f7d7) ∷
    row 66 0x3ec0f2d4 => (22, 0xfffffffff2d40000) ∷
    row 67 0x3dbb7533 => (13, 0x35976a2b45fe05a5) ∷
    row 68 0x3f61e555 => (27, 0xe08699d7f04969ea) ∷
    row 69 0x3e0c9cf3 => (16, 0x101f41e23864dbc9) ∷
    row 70 0x3e52485d => (18, 0x409af404d89bb090) ∷
    row 71 0x3efa85ce => (23, 0x7ebd13f1c893ba3f) ∷
    row 72 0x3c614b3d => (3, 0x7b4d422724c783e) ∷
    row 73 0x3c4c264b => (2, 0xa5d43934ba3c4fe1) ∷
    row 74 0x3e20da87 => (17, 0xffffffffda870000) ∷
    row 75 0x3c6f73e8 => (3, 0xc07ae88ef76b410a) ∷
    row 76 0x3e2f663e => (17, 0xe53f85eca8ebe549) ∷
    row 77 0x3e06c853 => (16, 0x39e9b5431bd43ab9) ∷
    row 78 0x3eb50b84 => (21, 0xfe41702c8f370ca0) ∷
    row 79 0x3e8689a8 => (20, 0xc5eebc8e4a58dcc9) ∷
    row 80 0x3cc67d90 => (6, 0xd8a75be53e55f20c) ∷
    []) ∷
    -- add
    group 0x0 (
    row 81 0x7e6cd214 with (12, 0) with (26, 0) => (19, 0) ∷
    row 82 0x7d604a14 with (0, 0x8000000000000000) with (9, 0xffffffff) => (11, 0x80000000ffffffff)
    ∷
    row 83 0x7f4ce214 with (12, 0x7fffffff) with (28, 0x7fffffffffffffff)
    => (26, 0x800000007ffffffe) ∷
    row 84 0x7fa94a14 with (9, 0xffffffff80000000) => (29, 0xffffffff00000000) ∷
    row 85 0x7eb63214 with (6, 0xffffffff7fffffff) with (22, 0xffffffffffffffff)
    => (21, 0xffffffff7ffffffe) ∷
    row 86 0x7d085a14 with (8, 0x80000000) with (11, 0x80000000) => (8, 0x100000000) ∷
    row 87 0x7ff79214 with (18, 0xffffffffffffffff) with (23, 0xffffffff7fffffff)
    => (31, 0xffffffff7ffffffe) ∷
    row 88 0x7e108214 with (16, 1) => (16, 2) ∷
    row 89 0x7ff5ea14 with (21, 0x7fffffffffffffff) with (29, 0x7fffffff)
    => (31, 0x800000007ffffffe) ∷
    row 90 0x7d80fa14 with (0, 0xffffffff) with (31, 0x8000000000000000) => (12, 0x80000000ffffffff)
    ∷
    row 91 0x7f8a4a14 with (9, 1) with (10, 1) => (28, 2) ∷
    row 92 0x7d673a14 with (7, 0x7fffffffffffffff) => (11, 0xfffffffffffffffe) ∷
    row 93 0x7d84b214 with (4, 0xffffffff) with (22, 0x80000000) => (12, 0x17fffffff) ∷
    row 94 0x7d6bca14 with (11, 0) with (25, 0xffffffffffffffff) => (11, 0xffffffffffffffff) ∷
    row 95 0x7ee9ca14 with (9, 0x8000000000000000) with (25, 0xffffffff80000000)
    => (23, 0x7fffffff80000000) ∷
    row 96 0x7dc75214 with (7, 0x7fffffff) with (10, 0x7fffffff) => (14, 0xfffffffe) ∷
    row 97 0x7c372a14 with (5, 0x8000000000000000) with (23, 0xffffffff80000000)
    => (1, 0x7fffffff80000000) ∷
    row 98 0x7c20b214 with (0, 0xffffffffffffffff) with (22, 0) => (1, 0xffffffffffffffff) ∷
    row 99 0x7f732214 with (4, 0xffffffff) with (19, 0x80000000) => (27, 0x17fffffff) ∷
    row 100 0x7ee73a14 with (7, 0xffffffff7fffffff) => (23, 0xfffffffefffffffe) ∷
    row 101 0x7df00214 => (15, 0x6e8faec0f114ddc2) ∷
    row 102 0x7dadfa14 => (13, 0xa8bdacc0de2b7516) ∷
    row 103 0x7f0f5214 => (24, 0xa218f029908f7854) ∷
    row 104 0x7eb5aa14 => (21, 0x4ad29e84d5dc930) ∷
    row 105 0x7dcaaa14 => (14, 0xd5e3341b208be189) ∷
    row 106 0x7d604a14 => (11, 0x1aaed9d44390115b) ∷
    row 107 0x7cfd1214 => (7, 0xbbe56c4ba7f7332d) ∷
    row 108 0x7c939a14 => (4, 0x695273c204ff079a) ∷
    row 109 0x7e46ca14 => (18, 0x5b00664faf5fe91e) ∷
    row 110 0x7f5a3a14 => (26, 0xe0e24770110ad3c0) ∷
    row 111 0x7c235a14 => (1, 0x8d0341c8afdff012) ∷
    row 112 0x7e9ba214 => (20, 0xc687becb3b6bec2) ∷
    row 113 0x7cbe4a14 => (5, 0x757caff99568fedc) ∷
    row 114 0x7de0d214 => (15, 0x1dfc34acc9aa1534) ∷
    row 115 0x7dbeda14 => (13, 0x14e902ecd7acbc2b) ∷
    row 116 0x7ceb5a14 => (7, 0xea2c550d0fca8dc6) ∷
    row 117 0x7ce36a14 => (7, 0xe7b7badc56235641) ∷
    row 118 0x7c21c214 => (1, 0xfe212394243aee99) ∷
    row 119 0x7ef2f214 => (23, 0xa2d0aacde4294ae8) ∷
    row 120 0x7e94a214 => (20, 0x6080283119d3adb4) ∷
    []) ∷
    -- lwz
    group 0x0 (
    row 121 0x81430000 with (3, 0x204fb95ab) with (m1, 0) => (10, 0) ∷
    row 122 0x80a04038 with (m1, 0xffffffff) with (at, 0x4030) => (5, 0xffffffff) ∷
    row 123 0x82ce76e8 with (14, 0xffffffffffffe6ca) with (m1, 0x7fffffffffffffff) with (at, 0x5daa)
    => (22, 0xffffffff) ∷
    row 124 0x811e8000 with (30, 0x4ccca96) with (m1, 1) => (8, 1) ∷
    row 125 0x81a00988 with (m1, 0xffffffff7fffffff) with (at, 0x980) => (13, 0x7fffffff) ∷
    row 126 0x8084ffff with (4, 0x41b80ca) with (m1, 0x80000000) => (4, 0x80000000) ∷
    row 127 0x837b0001 with (27, 0x49787f5) with (m1, 0xffffffffffffffff) => (27, 0xffffffff) ∷
    row 128 0x80848000 with (4, 0x404a1ac85) with (m1, 0xffffffff80000000) => (4, 0x80000000) ∷
    row 129 0x80605a48 with (m1, 0x7fffffff) with (at, 0x5a40) => (3, 0x7fffffff) ∷
    row 130 0x83e00a68 with (m1, 0x8000000000000000) with (at, 0xa60) => (31, 0) ∷
    row 131 0x81cb7b80 with (11, 0xffffffffffffeed1) with (m1, 1) with (at, 0x6a49) => (14, 1) ∷
    row 132 0x80da8000 with (26, 0x4fb0f47) with (m1, 0xffffffff7fffffff) => (6, 0x7fffffff) ∷
    row 133 0x80897fff with (9, 0x20472716e) with (m1, 0x80000000) => (4, 0x80000000) ∷
    row 134 0x83180000 with (24, 0x404239ba0) with (m1, 0xffffffffffffffff) => (24, 0xffffffff) ∷
    row 135 0x8318ffff with (24, 0x2040c8de2) with (m1, 0xffffffff80000000) => (24, 0x80000000) ∷
    row 136 0x80c00dd0 with (m1, 0x7fffffff) with (at, 0xdc8) => (6, 0x7fffffff) ∷
    row 137 0x80af7fff with (15, 0x4dc1fe0) with (m1, 0x8000000000000000) => (5, 0) ∷
    row 138 0x82600570 with (m1, 0) with (at, 0x568) => (19, 0) ∷
    row 139 0x832176e8 with (1, 0xffffffffffffd531) with (m1, 0xffffffff) with (at, 0x4c11)
    => (25, 0xffffffff) ∷
    row 140 0x80ad0001 with (13, 0x204e581e7) with (m1, 0x7fffffffffffffff) => (5, 0xffffffff) ∷
    row 141 0x83e87ed8 with (8, 0x4ca504a) => (31, 0x4ef8916a) ∷
    row 142 0x81ef531c with (15, 0x4e8114d) => (15, 0xc2070506) ∷
    row 143 0x81800ad4 with (at, 0xacc) => (12, 0x10be50c9) ∷
    row 144 0x8063ce54 with (3, 0x4cc98ca) => (3, 0x3b1e74b3) ∷
    row 145 0x80256740 with (5, 0x4043d17f6) => (1, 0x412770c5) ∷
    row 146 0x82e04110 with (at, 0x4108) => (23, 0x22d944fd) ∷
    row 147 0x811a4670 with (26, 0xffffffffffffd85e) with (at, 0x1ec6) => (8, 0xe033f15e) ∷
    row 148 0x8305db55 with (5, 0x437f1d0) => (24, 0x793775e5) ∷
    row 149 0x80990e77 with (25, 0x489f6fb) => (4, 0xede3d294) ∷
    row 150 0x835ae430 with (26, 0x20414a19c) => (26, 0x3e39076a) ∷
    row 151 0x807f5c4f with (31, 0x404d6f1e4) => (3, 0x6a371467) ∷
    row 152 0x8372d9b1 with (18, 0x20427da4c) => (27, 0x71ddf98b) ∷
    row 153 0x8123385c with (3, 0x4b02978) => (9, 0x552db6d7) ∷
    row 154 0x820058b0 with (at, 0x58a8) => (16, 0x14264c4a) ∷
    row 155 0x80884130 with (8, 0xfffffffffffff9ae) with (at, 0x3ad6) => (4, 0xaec7b9e4) ∷
    row 156 0x831f6feb with (31, 0x404f10111) => (24, 0x2511ffa6) ∷
    row 157 0x81e26e38 with (2, 0x204057b7a) => (15, 0x77051d8f) ∷
    row 158 0x83de29f3 with (30, 0x4fd2b2d) => (30, 0xa4a1139f) ∷
    row 159 0x806d35a2 with (13, 0x482284e) => (3, 0xade5e1d6) ∷
    row 160 0x83debe97 with (30, 0x4ea9ae1) => (30, 0x92d38835) ∷
    []) ∷
    -- lbz
    group 0x0 (
    row 161 0x88070000 with (7, 0x4dff262) with (m1, 0) => (0, 0) ∷
    row 162 0x8b60358c with (m1, 0xffffffff) with (at, 0x3584) => (27, 0xff) ∷
    row 163 0x8ada7558 with (26, 0xffffffffffff99b6) with (m1, 0x7fffffffffffffff) with (at, 0xf06)
    => (22, 0xff) ∷
    row 164 0x88278000 with (7, 0x4bd981a) with (m1, 1) => (1, 1) ∷
    row 165 0x88077fff with (7, 0x4e8a68f) with (m1, 0xffffffff7fffffff) => (0, 0xff) ∷
    row 166 0x8b5affff with (26, 0x44d7d10) with (m1, 0x80000000) => (26, 0) ∷
    row 167 0x89180001 with (24, 0x2043f70f1) with (m1, 0xffffffffffffffff) => (8, 0xff) ∷
    row 168 0x880003e0 with (m1, 0xffffffff80000000) with (at, 0x3d8) => (0, 0) ∷
    row 169 0x8be37fff with (3, 0x404cbb0e1) with (m1, 0x7fffffff) => (31, 0xff) ∷
    row 170 0x8a002dec with (m1, 0x8000000000000000) with (at, 0x2de4) => (16, 0) ∷
    row 171 0x8abb6e34 with (27, 0xffffffffffffc47c) with (m1, 1) with (at, 0x32a8) => (21, 1) ∷
    row 172 0x8b038000 with (3, 0x404f097d2) with (m1, 0xffffffff7fffffff) => (24, 0xff) ∷
    row 173 0x880f7fff with (15, 0x488915b) with (m1, 0x80000000) => (0, 0) ∷
    row 174 0x8a730000 with (19, 0x404afa843) with (m1, 0xffffffffffffffff) => (19, 0xff) ∷
    row 175 0x88baffff with (26, 0x4b931e6) with (m1, 0xffffffff80000000) => (5, 0) ∷
    row 176 0x8ae48000 with (4, 0x450d8e9) with (m1, 0x7fffffff) => (23, 0xff) ∷
    row 177 0x8b2c7fff with (12, 0x41f47fb) with (m1, 0x8000000000000000) => (25, 0) ∷
    row 178 0x88206cac with (m1, 0) with (at, 0x6ca4) => (1, 0) ∷
    row 179 0x88a7675c with (7, 0xffffffffffffb8f3) with (m1, 0xffffffff) with (at, 0x2047)
    => (5, 0xff) ∷
    row 180 0x88960001 with (22, 0x2048a7025) with (m1, 0x7fffffffffffffff) => (4, 0xff) ∷
    row 181 0x884cc2e2 with (12, 0x204e5e734) => (2, 0x68) ∷
    row 182 0x89ef4f3f with (15, 0x423877f) => (15, 0x27) ∷
    row 183 0x88b10e82 with (17, 0x204ef9246) => (5, 0xd) ∷
    row 184 0x8bbda679 with (29, 0x404f40c66) => (29, 0x1a) ∷
    row 185 0x8b63f5c1 with (3, 0x4301743) => (27, 0x4e) ∷
    row 186 0x88a01474 with (at, 0x146c) => (5, 0xaa) ∷
    row 187 0x8b2d6698 with (13, 0xffffffffffffc9a7) with (at, 0x3037) => (25, 0x2d) ∷
    row 188 0x89745c02 with (20, 0x404366fbd) => (11, 0xd7) ∷
    row 189 0x892950cf with (9, 0x40453f549) => (9, 0xa9) ∷
    row 190 0x88c6ea02 with (6, 0x204aa1e7c) => (6, 0xa1) ∷
    row 191 0x88c32be3 with (3, 0x4e291b9) => (6, 0xc1) ∷
    row 192 0x8852bdde with (18, 0x204fea793) => (2, 9) ∷
    row 193 0x8a573482 with (23, 0x204fccb7c) => (18, 0x77) ∷
    row 194 0x8ba04894 with (at, 0x488c) => (29, 0xd) ∷
    row 195 0x88ab67c8 with (11, 0xffffffffffffea72) with (at, 0x5232) => (5, 0xca) ∷
    row 196 0x8aa3154e with (3, 0x2044a6aa6) => (21, 0xaf) ∷
    row 197 0x899b2342 with (27, 0x42a1774) => (12, 0xba) ∷
    row 198 0x8b9c2f86 with (28, 0x404976353) => (28, 0xed) ∷
    row 199 0x8a1aefef with (26, 0x204e7edc6) => (16, 0x48) ∷
    row 200 0x8a10b4e5 with (16, 0x41b6664) => (16, 0xc9) ∷
    []) ∷
    -- stw
    group 0x0 (
    row 201 0x91e20000 with (2, 0x404dbf63e) with (15, 0) => (m1, 0xe216abb300000000) ∷
    row 202 0x91004e8c with (8, 1) with (at, 0x4e84) => (m1, 0x9b4f713400000001) ∷
    row 203 0x91164068 with (8, 0xffffffffffffffff) with (22, 0xfffffffffffff876) with (at, 0x38d6)
    => (m1, 0xf495d343ffffffff) ∷
    row 204 0x93128000 with (18, 0x4c60cc4) with (24, 0x8000000000000000)
    => (m1, 0xc0695db300000000) ∷
    row 205 0x93067fff with (6, 0x2046707ef) with (24, 0x7fffffffffffffff)
    => (m1, 0x5718df99ffffffff) ∷
    row 206 0x90e7ffff with (7, 0x204ec75d1) => (m1, 0x47e800d04ec75d1) ∷
    row 207 0x908e0001 with (4, 0x7fffffff) with (14, 0x404ff0113) => (m1, 0xadc8c6e17fffffff) ∷
    row 208 0x91088000 with (8, 0x4f4ff11) => (m1, 0x678ed84204f4ff11) ∷
    row 209 0x90877fff with (4, 0xffffffff7fffffff) with (7, 0x421c51b) => (m1, 0x2373e4047fffffff)
    ∷
    row 210 0x91a03ad0 with (13, 0xffffffff80000000) with (at, 0x3ac8) => (m1, 0xe99a665380000000) ∷
    row 211 0x93f17dfc with (17, 0xffffffffffffb174) with (31, 1) with (at, 0x2f68)
    => (m1, 0xb81a370200000001) ∷
    row 212 0x90198000 with (0, 0xffffffffffffffff) with (25, 0x204fdc784)
    => (m1, 0x5175ff29ffffffff) ∷
    row 213 0x93197fff with (24, 0x8000000000000000) with (25, 0x404b6586d)
    => (m1, 0x6bbbbfdc00000000) ∷
    row 214 0x91290000 with (9, 0x204fe06b7) => (m1, 0x17b24cf104fe06b7) ∷
    row 215 0x938076a4 with (28, 0x80000000) with (at, 0x769c) => (m1, 0x3e587e9280000000) ∷
    row 216 0x905b8000 with (2, 0x7fffffff) with (27, 0x2048b10c9) => (m1, 0xfce9d0947fffffff) ∷
    row 217 0x92ea7fff with (10, 0x2047a173c) with (23, 0xffffffff) => (m1, 0x2ff07322ffffffff) ∷
    row 218 0x90402860 with (2, 0xffffffff7fffffff) with (at, 0x2858) => (m1, 0x11c8a127fffffff) ∷
    row 219 0x90de66f4 with (6, 0xffffffff80000000) with (30, 0xffffffffffffe78b) with (at, 0x4e77)
    => (m1, 0x9d24987980000000) ∷
    row 220 0x90a20001 with (2, 0x204470589) with (5, 0) => (m1, 0x244a796c00000000) ∷
    row 221 0x934c1b05 with (12, 0x40418112b) => (m1, 0xd2ed4cc02d4136be) ∷
    row 222 0x937be808 with (27, 0x404cc5d86) => (m1, 0x66739ea104cc5d86) ∷
    row 223 0x90de7ac3 with (30, 0x4b82c37) => (m1, 0x27b136e33b423de8) ∷
    row 224 0x9084c198 with (4, 0x20432e42f) => (m1, 0xb3cac69c0432e42f) ∷
    row 225 0x90389ee4 with (24, 0x2043aa313) => (m1, 0x9b7056e2671b6ad4) ∷
    row 226 0x93807134 with (at, 0x712c) => (m1, 0x3a24ab88b540f733) ∷
    row 227 0x92865b74 with (6, 0xfffffffffffff790) with (at, 0x52fc) => (m1, 0x2e2aacbc4ed0319d) ∷
    row 228 0x9187d770 with (7, 0x4044d9a10) => (m1, 0xdf79c6503404a0e3) ∷
    row 229 0x93835cae with (3, 0x435d137) => (m1, 0xdfe0387152f8a2d2) ∷
    row 230 0x910808c5 with (8, 0x20401d43c) => (m1, 0xa3ca16f30401d43c) ∷
    row 231 0x91f648e9 with (22, 0x4b035ec) => (m1, 0x328fececc56f863f) ∷
    row 232 0x939395e4 with (19, 0x204ed2827) => (m1, 0x87159d71a99fe7d3) ∷
    row 233 0x9142d71f with (2, 0x4616e30) => (m1, 0x287638581511165e) ∷
    row 234 0x93c06cc4 with (at, 0x6cbc) => (m1, 0x895c59cb9d84be01) ∷
    row 235 0x90167fa0 with (22, 0xffffffffffffa88c) with (at, 0x2824) => (m1, 0x3d57b9a0c54697d9) ∷
    row 236 0x90ed5e06 with (13, 0x46582b7) => (m1, 0xaa9e4c01b7770880) ∷
    row 237 0x92cc50a4 with (12, 0x20465e23b) => (m1, 0x713470c340c9a84e) ∷
    row 238 0x93181803 with (24, 0x404495fb6) => (m1, 0x2a68cfb04495fb6) ∷
    row 239 0x937de5ed with (29, 0x4651eb4) => (m1, 0xc40c5dc14a39dbc4) ∷
    row 240 0x9084b68f with (4, 0x4040e785b) => (m1, 0x68193ee8040e785b) ∷
    []) ∷
    -- stb
    group 0x0 (
    row 241 0x9b6c0000 with (12, 0x204efa141) with (27, 0) => (m1, 0x35df809b93614100) ∷
    row 242 0x98405c7c with (2, 1) with (at, 0x5c74) => (m1, 0xec8726afd4642401) ∷
    row 243 0x9ac36b5c with (3, 0xffffffffffffc6b9) with (22, 0xffffffffffffffff) with (at, 0x320d)
    => (m1, 0xc6add950f10fdfff) ∷
    row 244 0x981e8000 with (0, 0x8000000000000000) with (30, 0x490d33f) => (m1, 0x8ff04452e9647200)
    ∷
    row 245 0x9bba7fff with (26, 0x204a7bb20) with (29, 0x7fffffffffffffff)
    => (m1, 0x240ea6cbbd61deff) ∷
    row 246 0x98c6ffff with (6, 0x4f86b0e) => (m1, 0x525497d16d08210e) ∷
    row 247 0x992a0001 with (9, 0x7fffffff) with (10, 0x4d6385c) => (m1, 0xf90dbf37f8573dff) ∷
    row 248 0x9ad68000 with (22, 0x404977864) => (m1, 0x33b4212b5f4f3164) ∷
    row 249 0x982a7fff with (1, 0xffffffff7fffffff) with (10, 0x2043a2b25)
    => (m1, 0xed080d7fa1effdff) ∷
    row 250 0x98803038 with (4, 0xffffffff80000000) with (at, 0x3030) => (m1, 0x340ee060c039a100) ∷
    row 251 0x9a801f20 with (20, 1) with (at, 0x1f18) => (m1, 0xfffd91a2ba2c1d01) ∷
    row 252 0x9b2c8000 with (12, 0x4229e5c) with (25, 0xffffffffffffffff)
    => (m1, 0x96c83a5b8fc772ff) ∷
    row 253 0x9be67fff with (6, 0x4a67151) with (31, 0x8000000000000000) => (m1, 0x31ee4ba1410b9f00)
    ∷
    row 254 0x994a0000 with (10, 0x204b961a6) => (m1, 0xdb53b947cdf8a3a6) ∷
    row 255 0x9a5bffff with (18, 0x80000000) with (27, 0x204aec4b5) => (m1, 0x82da3b7b368e8000) ∷
    row 256 0x9bed8000 with (13, 0x404324524) with (31, 0x7fffffff) => (m1, 0x3eda6e0f7acd35ff) ∷
    row 257 0x986c7fff with (3, 0xffffffff) with (12, 0x204ec8da3) => (m1, 0xc5b6981a9ab4c3ff) ∷
    row 258 0x98605208 with (3, 0xffffffff7fffffff) with (at, 0x5200) => (m1, 0xc15c58b2964528ff) ∷
    row 259 0x9b3f4ce4 with (25, 0xffffffff80000000) with (31, 0xffffffffffffcc59) with (at, 0x1935)
    => (m1, 0x5ad347ab6d7e6600) ∷
    row 260 0x9a350001 with (17, 0) with (21, 0x2041b4213) => (m1, 0x62d9793120607b00) ∷
    row 261 0x98508411 with (16, 0x462d160) => (m1, 0xeeb2d17aeeb6910) ∷
    row 262 0x99ad7843 with (13, 0x2048be342) => (m1, 0x2351cf8b191f2f42) ∷
    row 263 0x9b8c262b with (12, 0x443d8d1) => (m1, 0xe1fe485f5efbcdb5) ∷
    row 264 0x99ce04df with (14, 0x433e5a1) => (m1, 0x6b86b8aa808144a1) ∷
    row 265 0x9bf15f03 with (17, 0x45bbf0e) => (m1, 0xd40c99827daf921e) ∷
    row 266 0x9a405cd0 with (at, 0x5cc8) => (m1, 0x702fcebb5686b9b2) ∷
    row 267 0x9b7e4bc8 with (30, 0xfffffffffffff86f) with (at, 0x442f) => (m1, 0xe51620810b06b8ce) ∷
    row 268 0x9bc0233c with (at, 0x2334) => (m1, 0x93d41aa79b2f8f63) ∷
    row 269 0x999c0f0c with (28, 0x4850321) => (m1, 0x151add5b07013e42) ∷
    row 270 0x9ad63800 with (22, 0x47120aa) => (m1, 0xd6739c6f4e7bc5aa) ∷
    row 271 0x9973ed76 with (19, 0x20495f9be) => (m1, 0x62a852fa719f2475) ∷
    row 272 0x9832a578 with (18, 0x2049dc2fe) => (m1, 0x380e5412706b5c30) ∷
    row 273 0x992ec9b0 with (14, 0x48812c0) => (m1, 0xd6ddcf8b4ae06c47) ∷
    row 274 0x98e02680 with (at, 0x2678) => (m1, 0xb8a4419100fe5393) ∷
    row 275 0x9a565070 with (22, 0xfffffffffffff6ff) with (at, 0x4767) => (m1, 0x6a0e81f792c513f1) ∷
    row 276 0x9a95d363 with (21, 0x404991548) => (m1, 0x583564eb0034ac8b) ∷
    row 277 0x9be06c24 with (at, 0x6c1c) => (m1, 0x1c3a6a3f494d1c15) ∷
    row 278 0x9bbdb9fb with (29, 0x4bdf46f) => (m1, 0xab1b670a6e0e646f) ∷
    row 279 0x98e58896 with (5, 0x204fa4a1c) => (m1, 0xed6188626e788535) ∷
    row 280 0x9bff71ec with (31, 0x2041877c6) => (m1, 0x8edd4a1b4a8b7ec6) ∷
    []) ∷
    -- lhz
    group 0x0 (
    row 281 0xa2020000 with (2, 0x41af36a) with (m1, 0) => (16, 0) ∷
    row 282 0xa1a015b8 with (m1, 0xffffffff) with (at, 0x15b0) => (13, 0xffff) ∷
    row 283 0xa3da5ee4 with (26, 0xffffffffffffaee4) with (m1, 0x7fffffffffffffff) with (at, 0xdc0)
    => (30, 0xffff) ∷
    row 284 0xa0c88000 with (8, 0x4047340df) with (m1, 1) => (6, 1) ∷
    row 285 0xa2bd7fff with (29, 0x404001577) with (m1, 0xffffffff7fffffff) => (21, 0xffff) ∷
    row 286 0xa3ffffff with (31, 0x4715cc6) with (m1, 0x80000000) => (31, 0) ∷
    row 287 0xa01e0001 with (30, 0x204c516ca) with (m1, 0xffffffffffffffff) => (0, 0xffff) ∷
    row 288 0xa0e78000 with (7, 0x204fc4389) with (m1, 0xffffffff80000000) => (7, 0) ∷
    row 289 0xa1ea7fff with (10, 0x4046a3855) with (m1, 0x7fffffff) => (15, 0xffff) ∷
    row 290 0xa0c06928 with (m1, 0x8000000000000000) with (at, 0x6920) => (6, 0) ∷
    row 291 0xa33a6cd8 with (26, 0xfffffffffffff525) with (m1, 1) with (at, 0x61f5) => (25, 1) ∷
    row 292 0xa3b98000 with (25, 0x40409c704) with (m1, 0xffffffff7fffffff) => (29, 0xffff) ∷
    row 293 0xa3037fff with (3, 0x204ae315a) with (m1, 0x80000000) => (24, 0) ∷
    row 294 0xa3180000 with (24, 0x4370e66) with (m1, 0xffffffffffffffff) => (24, 0xffff) ∷
    row 295 0xa10cffff with (12, 0x204a25e2b) with (m1, 0xffffffff80000000) => (8, 0) ∷
    row 296 0xa1568000 with (22, 0x4044675fb) with (m1, 0x7fffffff) => (10, 0xffff) ∷
    row 297 0xa2db7fff with (27, 0x40476ab30) with (m1, 0x8000000000000000) => (22, 0) ∷
    row 298 0xa2e01adc with (m1, 0) with (at, 0x1ad4) => (23, 0) ∷
    row 299 0xa2b55f98 with (21, 0xffffffffffffb6c3) with (m1, 0xffffffff) with (at, 0x1653)
    => (21, 0xffff) ∷
    row 300 0xa1d10001 with (17, 0x2040725c3) with (m1, 0x7fffffffffffffff) => (14, 0xffff) ∷
    row 301 0xa3bacc60 with (26, 0x204c45977) => (29, 0xf20f) ∷
    row 302 0xa108e336 with (8, 0x4040ee016) => (8, 0x7e36) ∷
    row 303 0xa1a15be8 with (1, 0x204e6a23c) => (13, 0xe284) ∷
    row 304 0xa1ce71a4 with (14, 0x2044c64ba) => (14, 0x1efa) ∷
    row 305 0xa27aacc0 with (26, 0x20495f490) => (19, 0x3397) ∷
    row 306 0xa1204c68 with (at, 0x4c60) => (9, 0x205b) ∷
    row 307 0xa2c74e3c with (7, 0xfffffffffffffb0e) with (at, 0x4942) => (22, 0xe547) ∷
    row 308 0xa3819d26 with (1, 0x4176aa4) => (28, 0x825a) ∷
    row 309 0xa3834fbc with (3, 0x4eb4ddf) => (28, 0xf794) ∷
    row 310 0xa1adb62c with (13, 0x404a36ff7) => (13, 0x44f5) ∷
    row 311 0xa144c6fc with (4, 0x43dda68) => (10, 0x6a7e) ∷
    row 312 0xa3a89f31 with (8, 0x4661ad6) => (29, 0x682e) ∷
    row 313 0xa144781b with (4, 0x4c5a29c) => (10, 0x3e05) ∷
    row 314 0xa2206ac8 with (at, 0x6ac0) => (17, 0xec03) ∷
    row 315 0xa3845224 with (4, 0xffffffffffffdf9e) with (at, 0x31ba) => (28, 0x7229) ∷
    row 316 0xa0da2e3d with (26, 0x4048e142d) => (6, 0xd076) ∷
    row 317 0xa0f17869 with (17, 0x40479f590) => (7, 0x6ea) ∷
    row 318 0xa2522914 with (18, 0x40449632c) => (18, 0x1586) ∷
    row 319 0xa2e014dc with (at, 0x14d4) => (23, 0xfc48) ∷
    row 320 0xa2522fc3 with (18, 0x43b1bdd) => (18, 0xbb32) ∷
    []) ∷
    -- lha
    group 0x0 (
    row 321 0xa9630000 with (3, 0x4b3420e) with (m1, 0) => (11, 0) ∷
    row 322 0xa8407c98 with (m1, 0xffffffff) with (at, 0x7c90) => (2, 0xffffffffffffffff) ∷
    row 323 0xa87a78d0 with (26, 0xffffffffffffadda) with (m1, 0x7fffffffffffffff) with (at, 0x26a2)
    => (3, 0xffffffffffffffff) ∷
    row 324 0xabbf8000 with (31, 0x4046d55a6) with (m1, 1) => (29, 1) ∷
    row 325 0xa8707fff with (16, 0x2041ac19f) with (m1, 0xffffffff7fffffff)
    => (3, 0xffffffffffffffff) ∷
    row 326 0xa94affff with (10, 0x4aca04f) with (m1, 0x80000000) => (10, 0) ∷
    row 327 0xa9120001 with (18, 0x204764709) with (m1, 0xffffffffffffffff)
    => (8, 0xffffffffffffffff) ∷
    row 328 0xab5a8000 with (26, 0x40423607e) with (m1, 0xffffffff80000000) => (26, 0) ∷
    row 329 0xab987fff with (24, 0x4b1ecac) with (m1, 0x7fffffff) => (28, 0xffffffffffffffff) ∷
    row 330 0xabe0063c with (m1, 0x8000000000000000) with (at, 0x634) => (31, 0) ∷
    row 331 0xa95b56a4 with (27, 0xffffffffffffef90) with (m1, 1) with (at, 0x462c) => (10, 1) ∷
    row 332 0xaadd8000 with (29, 0x2045dec28) with (m1, 0xffffffff7fffffff)
    => (22, 0xffffffffffffffff) ∷
    row 333 0xa8bd7fff with (29, 0x404cd9889) with (m1, 0x80000000) => (5, 0) ∷
    row 334 0xaa520000 with (18, 0x204770cf6) with (m1, 0xffffffffffffffff)
    => (18, 0xffffffffffffffff) ∷
    row 335 0xa8cfffff with (15, 0x4584972) with (m1, 0xffffffff80000000) => (6, 0) ∷
    row 336 0xa8558000 with (21, 0x2041cf8a3) with (m1, 0x7fffffff) => (2, 0xffffffffffffffff) ∷
    row 337 0xa9eb7fff with (11, 0x204c31a8e) with (m1, 0x8000000000000000) => (15, 0) ∷
    row 338 0xa8807058 with (m1, 0) with (at, 0x7050) => (4, 0) ∷
    row 339 0xabc453c4 with (4, 0xfffffffffffff410) with (m1, 0xffffffff) with (at, 0x47cc)
    => (30, 0xffffffffffffffff) ∷
    row 340 0xa9010001 with (1, 0x4046005ee) with (m1, 0x7fffffffffffffff)
    => (8, 0xffffffffffffffff) ∷
    row 341 0xab7b9b87 with (27, 0x204e8ac87) => (27, 0x6fd5) ∷
    row 342 0xa9ce42eb with (14, 0x204fde4a4) => (14, 0xffffffffffffc21f) ∷
    row 343 0xa97e43b1 with (30, 0x404a160c1) => (11, 0xffffffffffffec90) ∷
    row 344 0xabdebf57 with (30, 0x47daa0c) => (30, 0xffffffffffffef29) ∷
    row 345 0xa81f9cf4 with (31, 0x40491d96c) => (0, 0xffffffffffffc9e9) ∷
    row 346 0xaa0052ac with (at, 0x52a4) => (16, 0x7cd0) ∷
    row 347 0xaba656b0 with (6, 0xffffffffffffaa9a) with (at, 0x142) => (29, 0x7de) ∷
    row 348 0xa83c88d6 with (28, 0x4041fc4d1) => (1, 0x6b14) ∷
    row 349 0xaa84f40b with (4, 0x469dc24) => (20, 0xffffffffffffa671) ∷
    row 350 0xa8c65bd3 with (6, 0x404419445) => (6, 0xffffffffffffb9f5) ∷
    row 351 0xa943fd5f with (3, 0x4fd055b) => (10, 0xffffffffffffa5a1) ∷
    row 352 0xaba4c807 with (4, 0x40445eab6) => (29, 0x6973) ∷
    row 353 0xaaae4aee with (14, 0x41bb536) => (21, 0x56d) ∷
    row 354 0xabe05b3c with (at, 0x5b34) => (31, 0x798f) ∷
    row 355 0xaac02424 with (at, 0x241c) => (22, 0xffffffffffffc5d7) ∷
    row 356 0xab63cf00 with (3, 0x49b7450) => (27, 0xffffffffffffea47) ∷
    row 357 0xab73ead4 with (19, 0x4a81b6c) => (27, 0xffffffffffffe6de) ∷
    row 358 0xaa52124a with (18, 0x4ecfef3) => (18, 0xffffffffffffbb9c) ∷
    row 359 0xa99951c0 with (25, 0x40414bd31) => (12, 0x6882) ∷
    row 360 0xaa1000c7 with (16, 0x2041ffe97) => (16, 0xffffffffffffed8f) ∷
    []) ∷
    -- sth
    group 0x0 (
    row 361 0xb3b70000 with (23, 0x4040de282) with (29, 0) => (m1, 0x285f28827de80000) ∷
    row 362 0xb1007764 with (8, 1) with (at, 0x775c) => (m1, 0xd753704db6100001) ∷
    row 363 0xb0465488 with (2, 0xffffffffffffffff) with (6, 0xfffffffffffff499) with (at, 0x4919)
    => (m1, 0x5123af8fc9e1ffff) ∷
    row 364 0xb3dd8000 with (29, 0x20429bc3e) with (30, 0x8000000000000000)
    => (m1, 0xf5aa215eb95b0000) ∷
    row 365 0xb3b17fff with (17, 0x404a26a42) with (29, 0x7fffffffffffffff)
    => (m1, 0x8215258e847effff) ∷
    row 366 0xb318ffff with (24, 0x404ff8afd) => (m1, 0x32fc084b2b498afd) ∷
    row 367 0xb0db0001 with (6, 0x7fffffff) with (27, 0x4e9c919) => (m1, 0xd201d168adbeffff) ∷
    row 368 0xb18c8000 with (12, 0x4040ccf44) => (m1, 0x3be391fd0bdbcf44) ∷
    row 369 0xb18d7fff with (12, 0xffffffff7fffffff) with (13, 0x404bbf2d2)
    => (m1, 0x40e9b31e45a1ffff) ∷
    row 370 0xb2601924 with (19, 0xffffffff80000000) with (at, 0x191c) => (m1, 0xbd6638a05b100000) ∷
    row 371 0xb0b745bc with (5, 1) with (23, 0xffffffffffffd67a) with (at, 0x1c2e)
    => (m1, 0xcecccaaf4c280001) ∷
    row 372 0xb1138000 with (8, 0xffffffffffffffff) with (19, 0x2041f0dc7)
    => (m1, 0x5de4151f18e9ffff) ∷
    row 373 0xb0097fff with (0, 0x8000000000000000) with (9, 0x4af518a) => (m1, 0x7bab181bc1520000)
    ∷
    row 374 0xb2730000 with (19, 0x4240802) => (m1, 0x1d5d277945640802) ∷
    row 375 0xb238ffff with (17, 0x80000000) with (24, 0x47b3134) => (m1, 0x89eb2e4da5200000) ∷
    row 376 0xb24e8000 with (14, 0x40b2271) with (18, 0x7fffffff) => (m1, 0xfbd16faee084ffff) ∷
    row 377 0xb2067fff with (6, 0x204273112) with (16, 0xffffffff) => (m1, 0x7afa3b70f790ffff) ∷
    row 378 0xb00016a0 with (at, 0x1698) => (m1, 0xf940edbfea46ff72) ∷
    row 379 0xb30159a4 with (1, 0xffffffffffffa8ca) with (24, 0xffffffff80000000) with (at, 0x266)
    => (m1, 0x8b047e6fb8a50000) ∷
    row 380 0xb0cd0001 with (6, 0) with (13, 0x4d08d40) => (m1, 0x15aba1ac62ac0000) ∷
    row 381 0xb00048ac with (at, 0x48a4) => (m1, 0xba09f749e85c4a18) ∷
    row 382 0xb0e7e722 with (7, 0x204aff680) => (m1, 0x2944445e49b5f680) ∷
    row 383 0xb1f85fa4 with (24, 0x2041e3ced) => (m1, 0x80aa5ff86b701c8) ∷
    row 384 0xb2f7ffee with (23, 0x204704e4a) => (m1, 0x89dfb8019f624e4a) ∷
    row 385 0xb301283b with (1, 0x404a4ca5b) => (m1, 0x75068a9093b62cd8) ∷
    row 386 0xb3205a9c with (at, 0x5a94) => (m1, 0x976618063b21bd3) ∷
    row 387 0xb3546b80 with (20, 0xfffffffffffffdfb) with (at, 0x6973) => (m1, 0xfda4fd0f58104e) ∷
    row 388 0xb0c4e994 with (4, 0x4e9fbc2) => (m1, 0xa80840da96a6ba7f) ∷
    row 389 0xb08fab65 with (15, 0x404aaa92e) => (m1, 0x19eed42ef99d01a9) ∷
    row 390 0xb2f7e133 with (23, 0x4044dd555) => (m1, 0x65955610383dd555) ∷
    row 391 0xb29b4c5d with (27, 0x404d3bed8) => (m1, 0xea16ae525285c0f4) ∷
    row 392 0xb2fa7e92 with (26, 0x4043cd408) => (m1, 0x421da12148777ae4) ∷
    row 393 0xb2582d13 with (24, 0x404340a4e) => (m1, 0xd939be511a111846) ∷
    row 394 0xb2006148 with (at, 0x6140) => (m1, 0x3b31d2f7c7545210) ∷
    row 395 0xb3295de0 with (9, 0xffffffffffffaa16) with (at, 0x7ee) => (m1, 0xe758042b5041f8f0) ∷
    row 396 0xb354be76 with (20, 0x204c02ce5) => (m1, 0x5beaddbfb4d57666) ∷
    row 397 0xb27f6aac with (31, 0x49785ab) => (m1, 0x14717fe0f5135e5a) ∷
    row 398 0xb16b3b87 with (11, 0x20452ac83) => (m1, 0x9b9f1e6310faac83) ∷
    row 399 0xb16de0cb with (13, 0x204f0f1aa) => (m1, 0x6086317208894a3d) ∷
    row 400 0xb021de48 with (1, 0x4041c7bfa) => (m1, 0xfa4e94e1dbc27bfa) ∷
    []) ∷
    -- lfs
    group 0x0 (
    row 401 0xc1ff0000 with (31, 0x204802a1d) with (m1, 0x5ef2efc800000000) => (47, 0) ∷
    row 402 0xc2e00278 with (m1, 0x77f9413c80000000) with (at, 0x270) => (55, 0x8000000000000000) ∷
    row 403 0xc2575d74 with (23, 0xffffffffffffc59d) with (m1, 0xef38611000000001) with (at, 0x2309)
    => (50, 0x36a0000000000000) ∷
    row 404 0xc0c68000 with (6, 0x404fdc9fb) with (m1, 0x149f2371007fffff)
    => (38, 0x380fffffc0000000) ∷
    row 405 0xc3247fff with (4, 0x204ec64b6) with (m1, 0x9e79083380000100)
    => (57, 0xb720000000000000) ∷
    row 406 0xc1efffff with (15, 0x404bf7227) with (m1, 0xd0403b8200800000)
    => (47, 0x3810000000000000) ∷
    row 407 0xc0720001 with (18, 0x204ca47a4) with (m1, 0x6cb4e5323f800000)
    => (35, 0x3ff0000000000000) ∷
    row 408 0xc1ce8000 with (14, 0x4633a86) with (m1, 0xd40586597f7fffff)
    => (46, 0x47efffffe0000000) ∷
    row 409 0xc0bd7fff with (29, 0x404dda01f) with (m1, 0x59ebf80c7f800000)
    => (37, 0x7ff0000000000000) ∷
    row 410 0xc1c01f74 with (m1, 0xd3d75e21ff800000) with (at, 0x1f6c) => (46, 0xfff0000000000000) ∷
    row 411 0xc36e5eb0 with (14, 0xffffffffffffbde2) with (m1, 0x661e40c27fc00000) with (at, 0x1c8a)
    => (59, 0x7ff8000000000000) ∷
    row 412 0xc1298000 with (9, 0x44d2be2) with (m1, 0xf2a46bc47f800001) => (41, 0x7ff0000020000000)
    ∷
    row 413 0xc2027fff with (2, 0x404535c5a) with (m1, 0x914bbf53ffffffff)
    => (48, 0xffffffffe0000000) ∷
    row 414 0xc0c60000 with (6, 0x2049354de) with (m1, 0x306caf4380000000)
    => (38, 0x8000000000000000) ∷
    row 415 0xc236ffff with (22, 0x404606ac6) with (m1, 0x9a6996aa00000001)
    => (49, 0x36a0000000000000) ∷
    row 416 0xc0958000 with (21, 0x204bb9e0f) with (m1, 0x8d30289d007fffff)
    => (36, 0x380fffffc0000000) ∷
    row 417 0xc2277fff with (7, 0x44d9967) with (m1, 0x9c7d4f280000100) => (49, 0xb720000000000000)
    ∷
    row 418 0xc2e07ae4 with (m1, 0x8eed7d300800000) with (at, 0x7adc) => (55, 0x3810000000000000) ∷
    row 419 0xc35849c8 with (24, 0xffffffffffffc35f) with (m1, 0x982149153f800000) with (at, 0xd1f)
    => (58, 0x3ff0000000000000) ∷
    row 420 0xc22a0001 with (10, 0x204036662) with (m1, 0xf22fb1ce7f7fffff)
    => (49, 0x47efffffe0000000) ∷
    row 421 0xc36a57d6 with (10, 0x421d4c3) => (59, 0x4497697700000000) ∷
    row 422 0xc2d6e19c with (22, 0x2042403ea) => (54, 0x3b0ec54900000000) ∷
    row 423 0xc3ed5deb with (13, 0x204b2ddeb) => (63, 0xbcfb3c1fe0000000) ∷
    row 424 0xc1ef5cde with (15, 0x2047a7d55) => (47, 0x3a5ccdfba0000000) ∷
    row 425 0xc04b788b with (11, 0x424f2bd) => (34, 0x43337adc40000000) ∷
    row 426 0xc1c04144 with (at, 0x413c) => (46, 0x477f42c1e0000000) ∷
    row 427 0xc08f680c with (15, 0xffffffffffffa944) with (at, 0x1148) => (36, 0x474025ac60000000) ∷
    row 428 0xc3550463 with (21, 0x204cc1fc7) => (58, 0x4276239be0000000) ∷
    row 429 0xc0384499 with (24, 0x4023b85) => (33, 0x39213c9020000000) ∷
    row 430 0xc14a47ed with (10, 0x204c63187) => (42, 0xbb41708960000000) ∷
    row 431 0xc36a797c with (10, 0x404c2415b) => (59, 0x38d6bf8780000000) ∷
    row 432 0xc3422f85 with (2, 0x404a1bf6d) => (58, 0x41e1298aa0000000) ∷
    row 433 0xc39cf1ed with (28, 0x4046423d8) => (60, 0x4660ae9280000000) ∷
    row 434 0xc1603e04 with (at, 0x3dfc) => (43, 0x46554e9f60000000) ∷
    row 435 0xc2c2699c with (2, 0xffffffffffffc396) with (at, 0x2d2a) => (54, 0x41bf09b140000000) ∷
    row 436 0xc3e05fd8 with (at, 0x5fd0) => (63, 0x389ddfc7e0000000) ∷
    row 437 0xc0e7bc37 with (7, 0x4049fc55c) => (39, 0xbaf1d0e380000000) ∷
    row 438 0xc1ef82c8 with (15, 0x204d0e335) => (47, 0x38badd0400000000) ∷
    row 439 0xc2177b96 with (23, 0x404e3c188) => (48, 0x41f9042960000000) ∷
    row 440 0xc3de7c8c with (30, 0x4da8a6c) => (62, 0x46ac4653c0000000) ∷
    []) ∷
    -- lfd
    group 0x0 (
    row 441 0xc9b50000 with (21, 0x404b4c388) with (m1, 0) => (45, 0) ∷
    row 442 0xc9201640 with (m1, 0xffffffff) with (at, 0x1638) => (41, 0xffffffff) ∷
    row 443 0xc85555fc with (21, 0xffffffffffffc55a) with (m1, 0x7fffffffffffffff) with (at, 0x1b4e)
    => (34, 0x7fffffffffffffff) ∷
    row 444 0xc8e48000 with (4, 0x494298a) with (m1, 1) => (39, 1) ∷
    row 445 0xcaff7fff with (31, 0x404f8b0fa) with (m1, 0xffffffff7fffffff)
    => (55, 0xffffffff7fffffff) ∷
    row 446 0xcb9cffff with (28, 0x20441ab22) with (m1, 0x80000000) => (60, 0x80000000) ∷
    row 447 0xca6f0001 with (15, 0x46d1800) with (m1, 0xffffffffffffffff)
    => (51, 0xffffffffffffffff) ∷
    row 448 0xca528000 with (18, 0x47bf798) with (m1, 0xffffffff80000000)
    => (50, 0xffffffff80000000) ∷
    row 449 0xca0d7fff with (13, 0x40416f492) with (m1, 0x7fffffff) => (48, 0x7fffffff) ∷
    row 450 0xcb202964 with (m1, 0x8000000000000000) with (at, 0x295c) => (57, 0x8000000000000000) ∷
    row 451 0xcab44054 with (20, 0xfffffffffffff655) with (m1, 1) with (at, 0x36a1) => (53, 1) ∷
    row 452 0xca708000 with (16, 0x43d9bcd) with (m1, 0xffffffff7fffffff)
    => (51, 0xffffffff7fffffff) ∷
    row 453 0xc80f7fff with (15, 0x4b9b8fc) with (m1, 0x80000000) => (32, 0x80000000) ∷
    row 454 0xc9ce0000 with (14, 0x204c4f38b) with (m1, 0xffffffffffffffff)
    => (46, 0xffffffffffffffff) ∷
    row 455 0xcb41ffff with (1, 0x407f62a) with (m1, 0xffffffff80000000) => (58, 0xffffffff80000000)
    ∷
    row 456 0xcafd8000 with (29, 0x20483c0d3) with (m1, 0x7fffffff) => (55, 0x7fffffff) ∷
    row 457 0xc9ea7fff with (10, 0x2048ba8e1) with (m1, 0x8000000000000000)
    => (47, 0x8000000000000000) ∷
    row 458 0xca0004f8 with (m1, 0) with (at, 0x4f0) => (48, 0) ∷
    row 459 0xca9969e0 with (25, 0xffffffffffffbad6) with (m1, 0xffffffff) with (at, 0x24ae)
    => (52, 0xffffffff) ∷
    row 460 0xc8920001 with (18, 0x4f89155) with (m1, 0x7fffffffffffffff)
    => (36, 0x7fffffffffffffff) ∷
    row 461 0xc9f0dfdc with (16, 0x404380f10) => (47, 0x24bd75bbc060a9d4) ∷
    row 462 0xcbde2930 with (30, 0x204af6b60) => (62, 0x8ed583f4c67d4e87) ∷
    row 463 0xcb1578c2 with (21, 0x2045f097f) => (56, 0x6f5c86baa842cb61) ∷
    row 464 0xc8c639d4 with (6, 0x4049cd380) => (38, 0xec0f59e165b12062) ∷
    row 465 0xc9163dde with (22, 0x404bd4d41) => (40, 0xd8f6cd94fec84d8a) ∷
    row 466 0xca207d28 with (at, 0x7d20) => (49, 0x684465a9738852da) ∷
    row 467 0xc9f96264 with (25, 0xffffffffffffd58c) with (at, 0x37e8) => (47, 0xc26df534c3f13051) ∷
    row 468 0xc819e6d5 with (25, 0x404c6234f) => (32, 0x374a74cf002e5ef) ∷
    row 469 0xc913e4c9 with (19, 0x404726e05) => (40, 0x7038fbc5f7bd73b5) ∷
    row 470 0xc9ce8b38 with (14, 0x4040202f8) => (46, 0xbda01ecbdb20d9a1) ∷
    row 471 0xc8b29313 with (18, 0x204742937) => (37, 0x3cff38329a2d17b5) ∷
    row 472 0xcba8e5d6 with (8, 0x404c8f745) => (61, 0x96c6cc2634e22df1) ∷
    row 473 0xc8943322 with (20, 0x204ab682d) => (36, 0x28c0aa7aab401c53) ∷
    row 474 0xcb406494 with (at, 0x648c) => (58, 0x85968045fd46e2dd) ∷
    row 475 0xc9745600 with (20, 0xfffffffffffff842) with (at, 0x4e3a) => (43, 0x337d529e2af6818e) ∷
    row 476 0xc9a32c5f with (3, 0x404faaf2f) => (45, 0xa2eded57344ef866) ∷
    row 477 0xc9eb121f with (11, 0x404bea7d7) => (47, 0x5d35309d19504766) ∷
    row 478 0xc9ad21d8 with (13, 0x40465693e) => (45, 0xdf409043d9fa6e8d) ∷
    row 479 0xcbe98f02 with (9, 0x204efbfec) => (63, 0x2c27e761764d6ddb) ∷
    row 480 0xc9ad3845 with (13, 0x2040677e3) => (45, 0x3a8e690bee494551) ∷
    []) ∷
    -- stfs
    group 0x0 (
    row 481 0xd39e0000 with (28, 0) with (30, 0x20456596f) with (60, 0) => (m1, 0x9a10851700000000)
    ∷
    row 482 0xd3c03584 with (30, 1) with (62, 0x8000000000000000) with (at, 0x357c)
    => (m1, 0xb4d777af80000000) ∷
    row 483 0xd18660cc with (6, 0xffffffffffffa3ed) with (12, 0xffffffffffffffff)
    with (44, 0x36a0000000000000) with (at, 0x4b1) => (m1, 0x26f458a800000001) ∷
    row 484 0xd2ce8000 with (14, 0x204978593) with (22, 0x8000000000000000)
    with (54, 0xb6b8000000000000) => (m1, 0x4e1bbc2e80000003) ∷
    row 485 0xd3c87fff with (8, 0x40471f9ba) with (30, 0x7fffffffffffffff)
    with (62, 0x380fffffe0000000) => (m1, 0xd2d36215007fffff) ∷
    row 486 0xd273ffff with (19, 0x40430e098) with (51, 0x3810000000000000)
    => (m1, 0x2266ff7200800000) ∷
    row 487 0xd1d20001 with (14, 0x7fffffff) with (18, 0x404278f81) with (46, 0x3ff0000000000000)
    => (m1, 0x9dada15d3f800000) ∷
    row 488 0xd0a58000 with (5, 0x4ac5bd0) with (37, 0x47efffffe0000000) => (m1, 0xffdc03a87f7fffff)
    ∷
    row 489 0xd1227fff with (2, 0x204129ad6) with (9, 0xffffffff7fffffff)
    with (41, 0x7ff0000000000000) => (m1, 0x878316807f800000) ∷
    row 490 0xd2e004e0 with (23, 0xffffffff80000000) with (55, 0xfff0000000000000) with (at, 0x4d8)
    => (m1, 0xfc4c3db9ff800000) ∷
    row 491 0xd2f04bb8 with (16, 0xffffffffffffe909) with (23, 1) with (55, 0x7ff8000000000000)
    with (at, 0x34b9) => (m1, 0x9053c17f7fc00000) ∷
    row 492 0xd2598000 with (18, 0xffffffffffffffff) with (25, 0x20445b2de)
    with (50, 0x7ff0000020000000) => (m1, 0x17b7ada67f800001) ∷
    row 493 0xd32f7fff with (15, 0x20437bcc3) with (25, 0x8000000000000000)
    with (57, 0xffffffffffffffff) => (m1, 0x69f79144ffffffff) ∷
    row 494 0xd39c0000 with (28, 0x404638eb3) with (60, 0xc00fffffffffffff)
    => (m1, 0x521e536ec07fffff) ∷
    row 495 0xd299ffff with (20, 0x80000000) with (25, 0x4041c7e08) with (52, 0x7fefffffffffffff)
    => (m1, 0xb6f8fbf97f7fffff) ∷
    row 496 0xd0a07c8c with (5, 0x7fffffff) with (37, 0xf35d6a1925618649) with (at, 0x7c84)
    => (m1, 0xab802f12daeb50c9) ∷
    row 497 0xd1477fff with (7, 0x4e15f82) with (10, 0xffffffff) with (42, 0xde26d1746fa26677)
    => (m1, 0x22f59c8bf1368ba3) ∷
    row 498 0xd000691c with (32, 0x6adb29f1a4496fd4) with (at, 0x6914) => (m1, 0x23dd409156d94f8d) ∷
    row 499 0xd2ff5b94 with (23, 0xffffffff80000000) with (31, 0xfffffffffffff8b3)
    with (55, 0xe4d622707ebe8c6e) with (at, 0x543f) => (m1, 0xaded72f7e6b11383) ∷
    row 500 0xd0e10001 with (1, 0x45ab8c3) with (7, 0) with (39, 0x48863b2b659e893c)
    => (m1, 0x2d99cd54431d95b) ∷
    row 501 0xd3003574 with (56, 0x52f3e91ea9adfbe4) with (at, 0x356c) => (m1, 0x57e07f3f579f48f5) ∷
    row 502 0xd14acd9f with (10, 0x204531d21) with (42, 0xf216794c7536e17c)
    => (m1, 0xbf676e0bd0b3ca63) ∷
    row 503 0xd003078d with (3, 0x204236845) with (32, 0xfbe4490b27cc1c47)
    => (m1, 0x20cec163df224859) ∷
    row 504 0xd2b599b6 with (21, 0x40481f890) with (53, 0x7aa4f996f5630a24)
    => (m1, 0x9af0751c5527ccb7) ∷
    row 505 0xd1312c3a with (17, 0x417d08e) with (41, 0x7b2a4b5e8be6738e)
    => (m1, 0xdfee204c59525af4) ∷
    row 506 0xd1c03600 with (46, 0x5926b6cc11270be9) with (at, 0x35f8) => (m1, 0x9574b2094935b660) ∷
    row 507 0xd2b56954 with (21, 0xfffffffffffff133) with (53, 0x6ee3fdda05305296) with (at, 0x5a7f)
    => (m1, 0xed0d2226771feed0) ∷
    row 508 0xd0db05aa with (27, 0x404823c45) with (38, 0x63c4231e7dcd8b67)
    => (m1, 0xaef424d15e2118f3) ∷
    row 509 0xd397ac6b with (23, 0x4a4cae5) with (60, 0x44dfb4698e513ab9)
    => (m1, 0x192759dc66fda34c) ∷
    row 510 0xd3de4a7d with (30, 0x204a954eb) with (62, 0xb6dcfacd4c585c32)
    => (m1, 0xe76ecd748000000e) ∷
    row 511 0xd2c1ec04 with (1, 0x4043c78de) with (54, 0x7ef24828b4564a5b)
    => (m1, 0x643cc76e77924145) ∷
    row 512 0xd2beea3b with (30, 0x20407882f) with (53, 0xf387f791c8d5024a)
    => (m1, 0xabe6b8dddc3fbc8e) ∷
    row 513 0xd06a9dfa with (10, 0x40b2a05) with (35, 0xfd2a23e19e0aadfe)
    => (m1, 0xce4d6adae9511f0c) ∷
    row 514 0xd0a05078 with (37, 0x6d9885856d07c4a8) with (at, 0x5070) => (m1, 0x289221386cc42c2b) ∷
    row 515 0xd0400c04 with (34, 0xb8160ce84f64c199) with (at, 0xbfc) => (m1, 0x5759442280b06742) ∷
    row 516 0xd3df35a8 with (31, 0x20410ee0e) with (62, 0x61d781e4d7f2deb0)
    => (m1, 0xc438bf6e4ebc0f26) ∷
    row 517 0xd30ca042 with (12, 0x44b4e93) with (56, 0x48e763077d12fe34)
    => (m1, 0xff605346473b183b) ∷
    row 518 0xd39c7ae5 with (28, 0x204bc871b) with (60, 0x6c5ddfa7e7be8c96)
    => (m1, 0x7eda937f62eefd3f) ∷
    row 519 0xd3b42717 with (20, 0x40411e0cc) with (61, 0x5f2bb15b94e632ae)
    => (m1, 0xc930cb2f795d8adc) ∷
    row 520 0xd210b9bd with (16, 0x204f4f16c) with (48, 0x69877f4467bc5e60)
    => (m1, 0x58779d6c4c3bfa23) ∷
    []) ∷
    -- stfd
    group 0x0 (
    row 521 0xda150000 with (16, 0) with (21, 0x404ba4126) with (48, 0) => (m1, 0) ∷
    row 522 0xdba043cc with (29, 1) with (61, 1) with (at, 0x43c4) => (m1, 1) ∷
    row 523 0xd8f75004 with (7, 0xffffffffffffffff) with (23, 0xffffffffffffc721)
    with (39, 0xffffffffffffffff) with (at, 0x171d) => (m1, 0xffffffffffffffff) ∷
    row 524 0xd94c8000 with (10, 0x8000000000000000) with (12, 0x20407de18)
    with (42, 0x8000000000000000) => (m1, 0x8000000000000000) ∷
    row 525 0xdae27fff with (2, 0x4583ef6) with (23, 0x7fffffffffffffff)
    with (55, 0x7fffffffffffffff) => (m1, 0x7fffffffffffffff) ∷
    row 526 0xda52ffff with (18, 0x204e267df) with (50, 0x80000000) => (m1, 0x80000000) ∷
    row 527 0xdbbf0001 with (29, 0x7fffffff) with (31, 0x4a458d4) with (61, 0x7fffffff)
    => (m1, 0x7fffffff) ∷
    row 528 0xdb188000 with (24, 0x4049f11d8) with (56, 0xffffffff) => (m1, 0xffffffff) ∷
    row 529 0xdab07fff with (16, 0x425e840) with (21, 0xffffffff7fffffff)
    with (53, 0xffffffff7fffffff) => (m1, 0xffffffff7fffffff) ∷
    row 530 0xd8401270 with (2, 0xffffffff80000000) with (34, 0xffffffff80000000) with (at, 0x1268)
    => (m1, 0xffffffff80000000) ∷
    row 531 0xd9de6adc with (14, 1) with (30, 0xffffffffffffb27c) with (46, 1) with (at, 0x1d50)
    => (m1, 1) ∷
    row 532 0xdb8c8000 with (12, 0x4101bc0) with (28, 0xffffffffffffffff)
    with (60, 0xffffffffffffffff) => (m1, 0xffffffffffffffff) ∷
    row 533 0xd9587fff with (10, 0x8000000000000000) with (24, 0x40478125b)
    with (42, 0x8000000000000000) => (m1, 0x8000000000000000) ∷
    row 534 0xd8c60000 with (6, 0x4c47bad) with (38, 0x7fffffffffffffff) => (m1, 0x7fffffffffffffff)
    ∷
    row 535 0xda58ffff with (18, 0x80000000) with (24, 0x4f357b8) with (50, 0x80000000)
    => (m1, 0x80000000) ∷
    row 536 0xdb2a8000 with (10, 0x40405a678) with (25, 0x7fffffff) with (57, 0x7fffffff)
    => (m1, 0x7fffffff) ∷
    row 537 0xd95b7fff with (10, 0xffffffff) with (27, 0x4044ebd48) with (42, 0xffffffff)
    => (m1, 0xffffffff) ∷
    row 538 0xd8002464 with (32, 0xffffffff7fffffff) with (at, 0x245c) => (m1, 0xffffffff7fffffff) ∷
    row 539 0xdabd69c4 with (21, 0xffffffff80000000) with (29, 0xffffffffffffc854)
    with (53, 0xffffffff80000000) with (at, 0x3210) => (m1, 0xffffffff80000000) ∷
    row 540 0xda4b0001 with (11, 0x47f3202) with (18, 0) with (50, 0) => (m1, 0) ∷
    row 541 0xd993b78d with (19, 0x4aab179) => (m1, 0xcab760c6a74f676) ∷
    row 542 0xd8c60b05 with (6, 0x2040ddd11) => (m1, 0xd79941aa8f47449b) ∷
    row 543 0xd9637395 with (3, 0x40453e649) => (m1, 0xe651eccbec4cd161) ∷
    row 544 0xd92916b2 with (9, 0x2047da7ac) => (m1, 0x6bd1b010639b6b02) ∷
    row 545 0xd8bab37c with (26, 0x48a621a) => (m1, 0x67db91b72e718995) ∷
    row 546 0xd9a076c8 with (at, 0x76c0) => (m1, 0xf7148a7480b3e0f5) ∷
    row 547 0xd937492c with (23, 0xfffffffffffff84f) with (at, 0x4173) => (m1, 0x1ee4961bafff51e8) ∷
    row 548 0xd8729499 with (18, 0x404568c47) => (m1, 0xaa2de41a05ab69eb) ∷
    row 549 0xd912c7b6 with (18, 0x204ee7b41) => (m1, 0x7dd0c8abf1d9f784) ∷
    row 550 0xda949c45 with (20, 0x4bf10d6) => (m1, 0xcb479943ea7afa5c) ∷
    row 551 0xd9d7be45 with (23, 0x2041cf65c) => (m1, 0x29762064067b5b64) ∷
    row 552 0xd954d26d with (20, 0x2045ddc72) => (m1, 0x54b040f04fea0e6d) ∷
    row 553 0xd826980f with (6, 0x4042cae70) => (m1, 0xd97b2b064e2a1939) ∷
    row 554 0xd96033bc with (at, 0x33b4) => (m1, 0x66f6adba8c0a2a51) ∷
    row 555 0xda0a6d48 with (10, 0xffffffffffffbc37) with (at, 0x2977) => (m1, 0xb171d5c2ed5b2b4d) ∷
    row 556 0xd8c06b28 with (at, 0x6b20) => (m1, 0xc51846cc7f0bd0dc) ∷
    row 557 0xdb9411c0 with (20, 0x204eeb919) => (m1, 0xda667a52592dd5f6) ∷
    row 558 0xdb39a8f7 with (25, 0x2042c7719) => (m1, 0x32fd331ee2827674) ∷
    row 559 0xdab7c4f3 with (23, 0x4f74db7) => (m1, 0x1db3265b408b1b31) ∷
    row 560 0xdab55a8c with (21, 0x4a49d6f) => (m1, 0xff842d4bef8979c6) ∷
    []) ∷
    -- ld
    group 0x0 (
    row 561 0xea2e0000 with (14, 0x4e07aaf) with (m1, 0) => (17, 0) ∷
    row 562 0xeb800828 with (m1, 0xffffffff) with (at, 0x820) => (28, 0xffffffff) ∷
    row 563 0xe8957afc with (21, 0xffffffffffffa2bc) with (m1, 0x7fffffffffffffff) with (at, 0x1db0)
    => (4, 0x7fffffffffffffff) ∷
    row 564 0xe8158000 with (21, 0x43a886e) with (m1, 1) => (0, 1) ∷
    row 565 0xe9217ffc with (1, 0x204ab80af) with (m1, 0xffffffff7fffffff)
    => (9, 0xffffffff7fffffff) ∷
    row 566 0xea73fffc with (19, 0x45640fa) with (m1, 0x80000000) => (19, 0x80000000) ∷
    row 567 0xe86b0000 with (11, 0x40438c94d) with (m1, 0xffffffffffffffff)
    => (3, 0xffffffffffffffff) ∷
    row 568 0xe8c68000 with (6, 0x404a96f07) with (m1, 0xffffffff80000000)
    => (6, 0xffffffff80000000) ∷
    row 569 0xe9447ffc with (4, 0x40450dcd2) with (m1, 0x7fffffff) => (10, 0x7fffffff) ∷
    row 570 0xebe02da4 with (m1, 0x8000000000000000) with (at, 0x2d9c) => (31, 0x8000000000000000) ∷
    row 571 0xea0f70a8 with (15, 0xfffffffffffff0ac) with (m1, 1) with (at, 0x614c) => (16, 1) ∷
    row 572 0xe8748000 with (20, 0x4f22bc8) with (m1, 0xffffffff7fffffff) => (3, 0xffffffff7fffffff)
    ∷
    row 573 0xe9127ffc with (18, 0x4256472) with (m1, 0x80000000) => (8, 0x80000000) ∷
    row 574 0xe8840000 with (4, 0x404e7ba76) with (m1, 0xffffffffffffffff)
    => (4, 0xffffffffffffffff) ∷
    row 575 0xeb90fffc with (16, 0x48c833b) with (m1, 0xffffffff80000000)
    => (28, 0xffffffff80000000) ∷
    row 576 0xebac8000 with (12, 0x2046a1404) with (m1, 0x7fffffff) => (29, 0x7fffffff) ∷
    row 577 0xea0b7ffc with (11, 0x47e6ce3) with (m1, 0x8000000000000000)
    => (16, 0x8000000000000000) ∷
    row 578 0xe8201650 with (m1, 0) with (at, 0x1648) => (1, 0) ∷
    row 579 0xe8e96670 with (9, 0xffffffffffffec38) with (m1, 0xffffffff) with (at, 0x52a0)
    => (7, 0xffffffff) ∷
    row 580 0xe8f20000 with (18, 0x404bb5267) with (m1, 0x7fffffffffffffff)
    => (7, 0x7fffffffffffffff) ∷
    row 581 0xebba2a74 with (26, 0x404b1a102) => (29, 0xb9b926df0efa84d6) ∷
    row 582 0xe884c8a4 with (4, 0x48b6e99) => (4, 0x1c1dd6cf0c3c7bf1) ∷
    row 583 0xea519880 with (17, 0x40447fd3b) => (18, 0x7f45cb4be5274b33) ∷
    row 584 0xe8e77244 with (7, 0x204911f58) => (7, 0xf445402999baf29d) ∷
    row 585 0xe9f7a3b8 with (23, 0x2041431d2) => (15, 0x3420ac7e29f7722e) ∷
    row 586 0xe9604cbc with (at, 0x4cb4) => (11, 0xeb67df5f95dcc9e6) ∷
    row 587 0xeb745488 with (20, 0xffffffffffffd5d6) with (at, 0x2a56) => (27, 0x3dde10a1dd6af9c6) ∷
    row 588 0xeb18183c with (24, 0x496e411) => (24, 0x185b47100a201cc) ∷
    row 589 0xe90800e4 with (8, 0x4044fb4e0) => (8, 0x6696aaa0ff81e1fa) ∷
    row 590 0xebbd0ec0 with (29, 0x20440a889) => (29, 0x96839847da0a9a50) ∷
    row 591 0xeb27a12c with (7, 0x404bfb504) => (25, 0xae4a7a7b903c2acc) ∷
    row 592 0xeb15cfcc with (21, 0x404766d58) => (24, 0xf0d22d1022169370) ∷
    row 593 0xea168e98 with (22, 0x404108838) => (16, 0x14f980318f99d43b) ∷
    row 594 0xe940063c with (at, 0x634) => (10, 0x6a1bf7b3d8c5ed2e) ∷
    row 595 0xe9cb6930 with (11, 0xffffffffffffde00) with (at, 0x4728) => (14, 0x9aa3bbc2fd9ade47) ∷
    row 596 0xebc39668 with (3, 0x42fbdbb) => (30, 0x260f832fe18a788) ∷
    row 597 0xeaa39c7c with (3, 0x4555c32) => (21, 0x34fa2c19da3f48f0) ∷
    row 598 0xe96ba65c with (11, 0x204b33eea) => (11, 0xb9a12e8d920ec280) ∷
    row 599 0xeaaee298 with (14, 0x4049e8ca8) => (21, 0xfed5276225871437) ∷
    row 600 0xe96bf498 with (11, 0x46cf75b) => (11, 0x8fdc9ac394a83e15) ∷
    []) ∷
    -- lwa
    group 0x0 (
    row 601 0xe91c0002 with (28, 0x20473b0b2) with (m1, 0) => (8, 0) ∷
    row 602 0xe8604662 with (m1, 0xffffffff) with (at, 0x4658) => (3, 0xffffffffffffffff) ∷
    row 603 0xeba144f6 with (1, 0xffffffffffffdeb5) with (m1, 0x7fffffffffffffff) with (at, 0x23a1)
    => (29, 0xffffffffffffffff) ∷
    row 604 0xe8918002 with (17, 0x40484d9e9) with (m1, 1) => (4, 1) ∷
    row 605 0xe9507ffe with (16, 0x404c11436) with (m1, 0xffffffff7fffffff) => (10, 0x7fffffff) ∷
    row 606 0xe842fffe with (2, 0x40437168c) with (m1, 0x80000000) => (2, 0xffffffff80000000) ∷
    row 607 0xea9d0002 with (29, 0x4e4e0ec) with (m1, 0xffffffffffffffff)
    => (20, 0xffffffffffffffff) ∷
    row 608 0xebde8002 with (30, 0x204cb735c) with (m1, 0xffffffff80000000)
    => (30, 0xffffffff80000000) ∷
    row 609 0xeb1a7ffe with (26, 0x404e8cddd) with (m1, 0x7fffffff) => (24, 0x7fffffff) ∷
    row 610 0xea80373e with (m1, 0x8000000000000000) with (at, 0x3734) => (20, 0) ∷
    row 611 0xe981537e with (1, 0xffffffffffffefbb) with (m1, 1) with (at, 0x432f) => (12, 1) ∷
    row 612 0xebe07c16 with (m1, 0xffffffff7fffffff) with (at, 0x7c0c) => (31, 0x7fffffff) ∷
    row 613 0xe8287ffe with (8, 0x43fb301) with (m1, 0x80000000) => (1, 0xffffffff80000000) ∷
    row 614 0xeaf70002 with (23, 0x40477f5bb) with (m1, 0xffffffffffffffff)
    => (23, 0xffffffffffffffff) ∷
    row 615 0xe855fffe with (21, 0x20492ab36) with (m1, 0xffffffff80000000)
    => (2, 0xffffffff80000000) ∷
    row 616 0xe9c48002 with (4, 0x40490d360) with (m1, 0x7fffffff) => (14, 0x7fffffff) ∷
    row 617 0xeb747ffe with (20, 0x4c5c3a0) with (m1, 0x8000000000000000) => (27, 0) ∷
    row 618 0xebe05dca with (m1, 0) with (at, 0x5dc0) => (31, 0) ∷
    row 619 0xea2146ea with (1, 0xffffffffffffdbd3) with (m1, 0xffffffff) with (at, 0x22b3)
    => (17, 0xffffffffffffffff) ∷
    row 620 0xe9520002 with (18, 0x4b9c49d) with (m1, 0x7fffffffffffffff)
    => (10, 0xffffffffffffffff) ∷
    row 621 0xeaf81466 with (24, 0x2042615fe) => (23, 0xffffffffe7bbb8ba) ∷
    row 622 0xe9ad0bc6 with (13, 0x4042021c5) => (13, 0x375f75f8) ∷
    row 623 0xe981bb2a with (1, 0x40452bd96) => (12, 0x62ac0b5e) ∷
    row 624 0xebff277a with (31, 0x4678f33) => (31, 0x69a178ea) ∷
    row 625 0xe8aa02e2 with (10, 0x204b539c4) => (5, 0x4c3fbe9e) ∷
    row 626 0xea40549a with (at, 0x5490) => (18, 0xa86dc79) ∷
    row 627 0xeb426216 with (2, 0xffffffffffffb3e2) with (at, 0x15ee) => (26, 0xffffffffa476d27b) ∷
    row 628 0xeb4484ca with (4, 0x2049aa4c2) => (26, 0x1a0fa0a5) ∷
    row 629 0xeb78d28e with (24, 0x40473a7d6) => (27, 0x6b5146f6) ∷
    row 630 0xebff0c66 with (31, 0x42fb18f) => (31, 0xffffffff983bc56e) ∷
    row 631 0xeae73592 with (7, 0x404796955) => (23, 0xffffffffa0cf1c0d) ∷
    row 632 0xeaecfb0e with (12, 0x204a67784) => (23, 0xffffffff850b4ad4) ∷
    row 633 0xeb4d7e26 with (13, 0x204606579) => (26, 0x44f051c2) ∷
    row 634 0xe92009d6 with (at, 0x9cc) => (9, 0xffffffffe07e30d7) ∷
    row 635 0xe85742ba with (23, 0xffffffffffffd702) with (at, 0x19b2) => (2, 0x57b4e814) ∷
    row 636 0xe8ca5e7a with (10, 0x40436ddef) => (6, 0xffffffffaa947777) ∷
    row 637 0xe8d01b0e with (16, 0x4d2b29d) => (6, 0xffffffffd91cdf03) ∷
    row 638 0xe92971e6 with (9, 0x450dfbe) => (9, 0xffffffffe34e1eb5) ∷
    row 639 0xe958c172 with (24, 0x4b306e3) => (10, 0xffffffffc928368e) ∷
    row 640 0xeb391cf2 with (25, 0x4044c6a20) => (25, 0xffffffff8aab268f) ∷
    []) ∷
    -- std
    group 0x0 (
    row 641 0xf91f0000 with (8, 0) with (31, 0x204c93886) => (m1, 0) ∷
    row 642 0xfae05e5c with (23, 1) with (at, 0x5e54) => (m1, 1) ∷
    row 643 0xf9ee74e0 with (14, 0xffffffffffffc60e) with (15, 0xffffffffffffffff) with (at, 0x3ae6)
    => (m1, 0xffffffffffffffff) ∷
    row 644 0xf97c8000 with (11, 0x8000000000000000) with (28, 0x404917d35)
    => (m1, 0x8000000000000000) ∷
    row 645 0xfb467ffc with (6, 0x404ee4ee3) with (26, 0x7fffffffffffffff)
    => (m1, 0x7fffffffffffffff) ∷
    row 646 0xf94afffc with (10, 0x204da3df0) => (m1, 0x204da3df0) ∷
    row 647 0xfae50000 with (5, 0x4534a5b) with (23, 0x7fffffff) => (m1, 0x7fffffff) ∷
    row 648 0xfa108000 with (16, 0x4051ed7) => (m1, 0x4051ed7) ∷
    row 649 0xfab07ffc with (16, 0x2044310b9) with (21, 0xffffffff7fffffff)
    => (m1, 0xffffffff7fffffff) ∷
    row 650 0xf8200b04 with (1, 0xffffffff80000000) with (at, 0xafc) => (m1, 0xffffffff80000000) ∷
    row 651 0xf89b7d58 with (4, 1) with (27, 0xffffffffffff9c53) with (at, 0x19a3) => (m1, 1) ∷
    row 652 0xfa3a8000 with (17, 0xffffffffffffffff) with (26, 0x404fd4149)
    => (m1, 0xffffffffffffffff) ∷
    row 653 0xfbb37ffc with (19, 0x4c6fe0b) with (29, 0x8000000000000000)
    => (m1, 0x8000000000000000) ∷
    row 654 0xf96b0000 with (11, 0x4752d7c) => (m1, 0x4752d7c) ∷
    row 655 0xf830fffc with (1, 0x80000000) with (16, 0x2045b2502) => (m1, 0x80000000) ∷
    row 656 0xf9398000 with (9, 0x7fffffff) with (25, 0x4cf39e3) => (m1, 0x7fffffff) ∷
    row 657 0xf8567ffc with (2, 0xffffffff) with (22, 0x4cf6c2e) => (m1, 0xffffffff) ∷
    row 658 0xfb007b4c with (24, 0xffffffff7fffffff) with (at, 0x7b44) => (m1, 0xffffffff7fffffff) ∷
    row 659 0xf84c7a8c with (2, 0xffffffff80000000) with (12, 0xffffffffffffa629) with (at, 0x20ad)
    => (m1, 0xffffffff80000000) ∷
    row 660 0xf93e0000 with (9, 0) with (30, 0x404cfddf8) => (m1, 0) ∷
    row 661 0xfaebd33c with (11, 0x4b25d38) => (m1, 0x2746b9e06be7052c) ∷
    row 662 0xfb39fc0c with (25, 0x20477799b) => (m1, 0x20477799b) ∷
    row 663 0xf8a68dd8 with (6, 0x20475750f) => (m1, 0x93c0e8e0e7b40073) ∷
    row 664 0xf9ad74f8 with (13, 0x404550de7) => (m1, 0x404550de7) ∷
    row 665 0xfb057ee4 with (5, 0x2041876ab) => (m1, 0x6bf3ac03f3f9ad2c) ∷
    row 666 0xf9c062dc with (at, 0x62d4) => (m1, 0xfab008a80b33ccd8) ∷
    row 667 0xf8866f68 with (6, 0xffffffffffffdc1b) with (at, 0x4b7b) => (m1, 0x8cf5229bdf5b61be) ∷
    row 668 0xfb21e0a8 with (1, 0x4040a729a) => (m1, 0x6330fa310f120a61) ∷
    row 669 0xf95fcd34 with (31, 0x4046e48) => (m1, 0xfd2d637f1122c5d) ∷
    row 670 0xfa313058 with (17, 0x204e0e615) => (m1, 0x204e0e615) ∷
    row 671 0xf858f554 with (24, 0x404f64417) => (m1, 0x34d0034a4dc126af) ∷
    row 672 0xfab82e64 with (24, 0x404ee20bd) => (m1, 0x104b56c99b530ba5) ∷
    row 673 0xfa53d8e8 with (19, 0x204742952) => (m1, 0x55de6e378155e5b7) ∷
    row 674 0xf960007c with (at, 0x74) => (m1, 0x229bdf060f9a9926) ∷
    row 675 0xfb7867cc with (24, 0xffffffffffffd645) with (at, 0x3e09) => (m1, 0x5d3444c01b705561) ∷
    row 676 0xfa9f15e8 with (31, 0x20456b5ea) => (m1, 0x5e8ab4de887c5e58) ∷
    row 677 0xf84930e4 with (9, 0x46818e6) => (m1, 0xfb846411cf439d2e) ∷
    row 678 0xf884ec28 with (4, 0x404b223a6) => (m1, 0x404b223a6) ∷
    row 679 0xf8c309e8 with (3, 0x40489694d) => (m1, 0xfeb1b0dda6ec4061) ∷
    row 680 0xfa73a788 with (19, 0x4044421cc) => (m1, 0x4044421cc) ∷
    []) ∷
    -- lwzx
    group 0x0 (
    row 681 0x7e3e382e with (7, 0x4e1122b) with (30, 0) with (m1, 0) => (17, 0) ∷
    row 682 0x7c60502e with (0, 0x8000000000000000) with (10, 0x204614db9) with (m1, 0xffffffff)
    => (3, 0xffffffff) ∷
    row 683 0x7f91082e with (1, 0x1846f26ab) with (17, 0x7fffffff) with (m1, 0x7fffffffffffffff)
    => (28, 0xffffffff) ∷
    row 684 0x7f4a502e with (10, 0x80000000025aa3d4) with (m1, 1) => (26, 1) ∷
    row 685 0x7c25b82e with (5, 0xffffffffffffffff) with (23, 0x433b0b4)
    with (m1, 0xffffffff7fffffff) => (1, 0x7fffffff) ∷
    row 686 0x7ce7a02e with (7, 0x80000000) with (20, 0x1843fb720) with (m1, 0x80000000) ∷
    row 687 0x7c79e82e with (25, 0xffffffff7fffffff) with (29, 0x8484059c)
    with (m1, 0xffffffffffffffff) => (3, 0xffffffff) ∷
    row 688 0x7ffff82e with (31, 0x8000000102004e11) with (m1, 0xffffffff80000000)
    => (31, 0x80000000) ∷
    row 689 0x7fb5a82e with (21, 0x80000000025abd5b) with (m1, 0x7fffffff) with (at, 0x4b57aae)
    => (29, 0x7fffffff) ∷
    row 690 0x7e40202e with (0, 0xffffffff) with (4, 0x404a2a158) with (m1, 0x8000000000000000)
    => (18, 0) ∷
    row 691 0x7ffa082e with (1, 0x20472bab1) with (26, 1) with (m1, 1) => (31, 1) ∷
    row 692 0x7d13982e with (19, 0x80000001026838b7) with (m1, 0xffffffff7fffffff)
    => (8, 0x7fffffff) ∷
    row 693 0x7e5e702e with (14, 0xffffffff04111ae3) with (30, 0xffffffff) with (m1, 0x80000000)
    => (18, 0x80000000) ∷
    row 694 0x7dceb82e with (14, 0) with (23, 0x20434b70d) with (m1, 0xffffffffffffffff)
    => (14, 0xffffffff) ∷
    row 695 0x7c16f02e with (22, 0x8000000000000000) with (30, 0x8000000004e5f09b)
    with (m1, 0xffffffff80000000) => (0, 0x80000000) ∷
    row 696 0x7db2602e with (12, 0x18424c78c) with (18, 0x7fffffff) with (m1, 0x7fffffff)
    => (13, 0x7fffffff) ∷
    row 697 0x7e0fc02e with (15, 0xffffffff80000000) with (24, 0x84f13bde)
    with (m1, 0x8000000000000000) => (16, 0) ∷
    row 698 0x7ce0702e with (0, 0xffffffffffffffff) with (14, 0x4f5f83e) with (m1, 0) => (7, 0) ∷
    row 699 0x7c81f82e with (1, 0x80000000) with (31, 0xffffffff84885200) with (m1, 0xffffffff)
    => (4, 0xffffffff) ∷
    row 700 0x7d65282e with (5, 0x80000000027ecf3d) with (m1, 0x7fffffffffffffff)
    => (11, 0xffffffff) ∷
    row 701 0x7fb2182e with (3, 0xee368c792779a788) => (29, 0x371300da) ∷
    row 702 0x7d8c882e with (17, 0x9c355b8374b3dba) => (12, 0x2b7a4a5d) ∷
    row 703 0x7ecc102e with (2, 0x21c1a628dd9da5cb) => (22, 0xfb8a6c08) ∷
    row 704 0x7d08402e with (8, 0x22d7b1d) => (8, 0xa74365da) ∷
    row 705 0x7e27202e with (4, 0xdc23b764f16fc51c) => (17, 0x2ea537d4) ∷
    row 706 0x7de0302e with (6, 0x4045b5268) => (15, 0x91afe1f5) ∷
    row 707 0x7e9a502e with (10, 0x66a7b75c7a68878e) => (20, 0xd063643d) ∷
    row 708 0x7c4e702e with (14, 0x80000002021e6765) with (at, 0x4043ccec2) => (2, 0xeabfbeac) ∷
    row 709 0x7fb1d82e with (27, 0x780ea86c94b74ad5) => (29, 0xe0c4f143) ∷
    row 710 0x7ef7702e with (14, 0x5173faa109597c8d) => (23, 0xb272fc00) ∷
    row 711 0x7dd7a82e with (21, 0x9ad030f6b7b72284) => (14, 0x5fc9dee6) ∷
    row 712 0x7e01102e with (2, 0x36b397c85d4c930b) => (16, 0xe8c999f2) ∷
    row 713 0x7cb0682e with (13, 0x5e72fa32e881abcd) => (5, 0x4d722d26) ∷
    row 714 0x7c80502e with (10, 0x47d5a84) => (4, 0x8dc39881) ∷
    row 715 0x7e76402e with (8, 0xc5c713ae029050b5) => (19, 0xa9bddc03) ∷
    row 716 0x7d91882e with (17, 0x80000002021c5686) with (at, 0x40438ad04) => (12, 0xa160f7ac) ∷
    row 717 0x7fcc882e with (17, 0x74be010de5f43bf7) => (30, 0x74aceb7d) ∷
    row 718 0x7e52d82e with (27, 0x2b172870c51a4e59) => (18, 0x23a1b775) ∷
    row 719 0x7f4f882e with (17, 0x3c76853bcadc3373) => (26, 0xae3f5b94) ∷
    row 720 0x7e10802e with (16, 0x8000000202540409) with (at, 0x404a8080a) => (16, 0x1485d7db) ∷
    []) ∷
    -- lbzx
    group 0x0 (
    row 721 0x7c08c8ae with (8, 0) with (25, 0x41092f6) with (m1, 0) => (0, 0) ∷
    row 722 0x7fc080ae with (0, 0x8000000000000000) with (16, 0x45c1090) with (m1, 0xffffffff)
    => (30, 0xff) ∷
    row 723 0x7d2908ae with (1, 0x184352b8d) with (9, 0x7fffffff) with (m1, 0x7fffffffffffffff)
    => (9, 0xff) ∷
    row 724 0x7f4a50ae with (10, 0x102789ca0) with (m1, 1) => (26, 1) ∷
    row 725 0x7c65a8ae with (5, 0xffffffffffffffff) with (21, 0x43ae458)
    with (m1, 0xffffffff7fffffff) => (3, 0xff) ∷
    row 726 0x7fbd88ae with (17, 0xffffffff84122cd0) with (29, 0x80000000) with (m1, 0x80000000)
    => (29, 0) ∷
    row 727 0x7c7918ae with (3, 0x2847712ac) with (25, 0xffffffff7fffffff)
    with (m1, 0xffffffffffffffff) => (3, 0xff) ∷
    row 728 0x7d4a50ae with (10, 0x80000000020a204a) with (m1, 0xffffffff80000000) => (10, 0) ∷
    row 729 0x7f58d0ae with (24, 0x7fffffffffffffff) with (26, 0x80000004043f0bdf)
    with (m1, 0x7fffffff) => (26, 0xff) ∷
    row 730 0x7f0038ae with (0, 0xffffffff) with (7, 0x2044cc9e1) with (m1, 0x8000000000000000)
    => (24, 0) ∷
    row 731 0x7fa3e8ae with (3, 1) with (29, 0x43d7a9b) with (m1, 1) => (29, 1) ∷
    row 732 0x7e5ad0ae with (26, 0x1023339b1) with (m1, 0xffffffff7fffffff) with (at, 0x20466735a)
    => (18, 0xff) ∷
    row 733 0x7ea000ae with (0, 0x404725ee2) with (m1, 0x80000000) => (21, 0) ∷
    row 734 0x7e9448ae with (9, 0x2040be7c4) with (20, 0) with (m1, 0xffffffffffffffff)
    => (20, 0xff) ∷
    row 735 0x7c5480ae with (16, 0x8000000204ddb8b3) with (20, 0x8000000000000000)
    with (m1, 0xffffffff80000000) => (2, 0) ∷
    row 736 0x7d0c08ae with (1, 0x1843d2705) with (12, 0x7fffffff) with (m1, 0x7fffffff)
    => (8, 0xff) ∷
    row 737 0x7d2fc0ae with (15, 0xffffffff80000000) with (24, 0x842a32b8)
    with (m1, 0x8000000000000000) => (9, 0) ∷
    row 738 0x7d2088ae with (0, 0xffffffffffffffff) with (17, 0x4a4dbce) with (m1, 0) => (9, 0) ∷
    row 739 0x7f5030ae with (6, 0x384ad2246) with (16, 0x80000000) with (m1, 0xffffffff)
    => (26, 0xff) ∷
    row 740 0x7e96b0ae with (22, 0x10276d866) with (m1, 0x7fffffffffffffff) => (20, 0xff) ∷
    row 741 0x7d50b8ae with (23, 0xbbb87d928a1e5e3b) => (10, 0x14) ∷
    row 742 0x7f7b08ae with (1, 0x77cf41d509dbb089) => (27, 0xbb) ∷
    row 743 0x7db5f8ae with (31, 0x74b5cbc267692d99) => (13, 0x89) ∷
    row 744 0x7ffff8ae with (31, 0x80000002023c085d) => (31, 0x7e) ∷
    row 745 0x7db938ae with (7, 0xaeb812c11ec25688) => (13, 0x9a) ∷
    row 746 0x7c8000ae with (0, 0x4040ef100) => (4, 0xde) ∷
    row 747 0x7cc7a0ae with (20, 0x53dd78a4ee7f198c) => (6, 0x48) ∷
    row 748 0x7d4a50ae with (10, 0x2024378bd) => (10, 0xdb) ∷
    row 749 0x7c1ae8ae with (29, 0xac4bdade2d0419e) => (0, 0x94) ∷
    row 750 0x7d8ca0ae with (20, 0x665cfab7a06e7828) => (12, 0x75) ∷
    row 751 0x7d5b70ae with (14, 0xb7843fc370cc66a3) => (10, 0x7d) ∷
    row 752 0x7e9ba0ae with (20, 0x6c23b8b21509aa5c) => (20, 0xac) ∷
    row 753 0x7c46a8ae with (21, 0x497a574f8f25c85f) => (2, 2) ∷
    row 754 0x7e8078ae with (15, 0x204e05ece) => (20, 0x80) ∷
    row 755 0x7d2d28ae with (5, 0x1ee1cb7e10fd17b0) => (9, 0x25) ∷
    row 756 0x7e4840ae with (8, 0x102191ab7) with (at, 0x204323566) => (18, 0xf2) ∷
    row 757 0x7f12b8ae with (23, 0x3719adce5104cd0b) => (24, 0xe5) ∷
    row 758 0x7ed6c8ae with (25, 0xf1ea6f83eef09041) => (22, 0) ∷
    row 759 0x7c8620ae with (4, 0xc5e71cb0c0289baa) => (4, 0x42) ∷
    row 760 0x7c4210ae with (2, 0x211f6fc) with (at, 0x423edf0) => (2, 0xac) ∷
    []) ∷
    -- stwx
    group 0x0 (
    row 761 0x7d66892e with (6, 0) with (11, 0) with (17, 0x40457bae6) => (m1, 0x3a7b27d800000000) ∷
    row 762 0x7cc0b92e with (0, 0x8000000000000000) with (6, 1) with (23, 0x4192537)
    => (m1, 0x52e15f5a00000001) ∷
    row 763 0x7fe2612e with (2, 0x7fffffff) with (12, 0xffffffff84bd8240)
    with (31, 0xffffffffffffffff) => (m1, 0x3b895369ffffffff) ∷
    row 764 0x7e05292e with (5, 0x2022268ff) with (16, 0x8000000000000000)
    => (m1, 0x668a4fda00000000) ∷
    row 765 0x7f8f492e with (9, 0x459bf22) with (15, 0xffffffffffffffff)
    with (28, 0x7fffffffffffffff) => (m1, 0x5b92b4d7ffffffff) ∷
    row 766 0x7f9c392e with (7, 0xffffffff84a6f450) with (28, 0x80000000)
    => (m1, 0x992e763580000000) ∷
    row 767 0x7df5992e with (15, 0x7fffffff) with (19, 0x48481c6e2) with (21, 0xffffffff7fffffff)
    => (m1, 0xa1a62f097fffffff) ∷
    row 768 0x7c00012e with (0, 0x4ea36d6) => (m1, 0xeacdd26b04ea36d6) ∷
    row 769 0x7ec0492e with (0, 0x7fffffffffffffff) with (9, 0x204e0442c)
    with (22, 0xffffffff7fffffff) => (m1, 0x5e0502d7fffffff) ∷
    row 770 0x7f20f92e with (0, 0xffffffff) with (25, 0xffffffff80000000) with (31, 0x404b9443a)
    => (m1, 0x5b68647d80000000) ∷
    row 771 0x7c2dd12e with (1, 1) with (13, 1) with (26, 0x2041fe1aa) => (m1, 0x8915a72d00000001) ∷
    row 772 0x7e42112e with (2, 0x80000001025f6394) with (18, 0xffffffffffffffff)
    with (at, 0x204bec720) => (m1, 0xeafe2c6affffffff) ∷
    row 773 0x7f4d792e with (13, 0xffffffff) with (15, 0x10495f4b5) with (26, 0x8000000000000000)
    => (m1, 0x2b46340800000000) ∷
    row 774 0x7f9c812e with (16, 0x404fabfa1) with (28, 0) => (m1, 0x366a331c00000000) ∷
    row 775 0x7f58f12e with (24, 0x8000000000000000) with (26, 0x80000000)
    with (30, 0x800000000497d29c) => (m1, 0xec71f6be80000000) ∷
    row 776 0x7df0992e with (15, 0x7fffffff) with (16, 0x7fffffff) with (19, 0x1846d2da4)
    => (m1, 0xa30bac07fffffff) ∷
    row 777 0x7dfb412e with (8, 0x847ad0b8) with (15, 0xffffffff) with (27, 0xffffffff80000000)
    => (m1, 0xcc98ef50ffffffff) ∷
    row 778 0x7e80392e with (0, 0xffffffffffffffff) with (7, 0x416112f)
    with (20, 0xffffffff7fffffff) => (m1, 0xfcf278407fffffff) ∷
    row 779 0x7fbd812e with (16, 0x184e999b3) with (29, 0x80000000) => (m1, 0xcbbb1dbd80000000) ∷
    row 780 0x7e60012e with (0, 0x204f56a44) with (19, 0) => (m1, 0xeaf6b9b00000000) ∷
    row 781 0x7d75712e with (14, 0xd2b2dce859085813) => (m1, 0x1c7fb0f0e7e82440) ∷
    row 782 0x7c00d12e with (26, 0x2040b38e3) => (m1, 0x3f6794d196c9e8ee) ∷
    row 783 0x7f77012e with (0, 0x383c018ec0dbd823) => (m1, 0x5fd29f14950ce142) ∷
    row 784 0x7dce712e with (14, 0x80000000022bbe86) => (m1, 0x8f1af3e3022bbe86) ∷
    row 785 0x7f3cf12e with (30, 0xdd2d10995c399b1) => (m1, 0xc220c3135e485377) ∷
    row 786 0x7cc0e12e with (28, 0x204da36be) => (m1, 0xc00289ba2807a9d3) ∷
    row 787 0x7cfb492e with (9, 0x80e527fc07674c33) => (m1, 0x436a1ceee93657d5) ∷
    row 788 0x7f04212e with (4, 0x2745da8) => (m1, 0x53e6a883045349be) ∷
    row 789 0x7d7cf92e with (31, 0xe85a1b6275da16ae) => (m1, 0xe3aeaca44960b1ed) ∷
    row 790 0x7d8ce12e with (28, 0x4f5de14fb1ee6a2) => (m1, 0x6c5fd2709b97973) ∷
    row 791 0x7d16c12e with (24, 0x2198e31383598b72) => (m1, 0xa2ee72363777b6f1) ∷
    row 792 0x7e8a912e with (18, 0x825f02e75ca103f5) => (m1, 0xd8a087a613b9ca9d) ∷
    row 793 0x7cbc212e with (4, 0x46f48e479a923cb4) => (m1, 0xd92e948d1513eb60) ∷
    row 794 0x7fc0692e with (13, 0x2045b0a3e) => (m1, 0xc9764801610aa2b5) ∷
    row 795 0x7c4b192e with (3, 0x1527585fa82f2b9d) => (m1, 0xdc9f19d6e2354f3a) ∷
    row 796 0x7ef6b12e with (22, 0x1027707d0) with (at, 0x204ee0f98) => (m1, 0xd9473e38a18d8db8) ∷
    row 797 0x7e61d12e with (26, 0xbce44a8e522174af) => (m1, 0xff0ad4fae3ab8823) ∷
    row 798 0x7d4a892e with (17, 0x611d1244a0284b0e) => (m1, 0x8136a4963e494d5) ∷
    row 799 0x7d74a92e with (21, 0x96ad4a34eae4d10a) => (m1, 0x4071c5fa3c9360d4) ∷
    row 800 0x7f18c12e with (24, 0x2023112d7) => (m1, 0x43ac1921023112d7) ∷
    []) ∷
    -- stbx
    group 0x0 (
    row 801 0x7e70f9ae with (16, 0) with (19, 0) with (31, 0x204b689fd) => (m1, 0xa0d3ecd5022f3f00)
    ∷
    row 802 0x7f8039ae with (0, 0x8000000000000000) with (7, 0x404988bae) with (28, 1)
    => (m1, 0xb6a904e9c48af801) ∷
    row 803 0x7d99c1ae with (12, 0xffffffffffffffff) with (24, 0xffffffff84b2d56e)
    with (25, 0x7fffffff) => (m1, 0x2031498b628f89ff) ∷
    row 804 0x7c98c1ae with (4, 0x8000000000000000) with (24, 0x2022d5e46) with (at, 0x4045abc84)
    => (m1, 0x48a1268ddc3cf200) ∷
    row 805 0x7eb091ae with (16, 0xffffffffffffffff) with (18, 0x4e59667)
    with (21, 0x7fffffffffffffff) => (m1, 0xbe89dc1d319333ff) ∷
    row 806 0x7c8431ae with (4, 0x80000000) with (6, 0xffffffff84fe0da1) => (m1, 0xf9947e0d62924d00)
    ∷
    row 807 0x7f40a9ae with (0, 0xffffffff7fffffff) with (21, 0x204a4223e) with (26, 0x7fffffff)
    => (m1, 0xff7b17746f3a3fff) ∷
    row 808 0x7ffff9ae with (31, 0x80000000026bea1f) => (m1, 0xc9830b68578b081f) ∷
    row 809 0x7e7e09ae with (1, 0x800000000443ce4c) with (19, 0xffffffff7fffffff)
    with (30, 0x7fffffffffffffff) => (m1, 0xe20469bd1b84aaff) ∷
    row 810 0x7ec059ae with (0, 0xffffffff) with (11, 0x43d65ba) with (22, 0xffffffff80000000)
    => (m1, 0xb86cce9ebb272400) ∷
    row 811 0x7ea329ae with (3, 1) with (5, 0x419efe0) with (21, 1) => (m1, 0xe388f1e136727701) ∷
    row 812 0x7f74a1ae with (20, 0x80000000026cb660) with (27, 0xffffffffffffffff)
    => (m1, 0xc651c7b08d66a1ff) ∷
    row 813 0x7cc3c9ae with (3, 0xffffffff) with (6, 0x8000000000000000)
    with (25, 0xffffffff04268702) => (m1, 0x408afe0c003a400) ∷
    row 814 0x7fde91ae with (18, 0x204abe94f) with (30, 0) => (m1, 0xc9b8f87ce497e00) ∷
    row 815 0x7c3ea1ae with (1, 0x80000000) with (20, 0x8000000204143e55)
    with (30, 0x8000000000000000) => (m1, 0x4383a3bbb8383100) ∷
    row 816 0x7d48c1ae with (8, 0x7fffffff) with (10, 0x7fffffff) with (24, 0x384b4db69)
    => (m1, 0x5eb148507dcfbcff) ∷
    row 817 0x7cf371ae with (7, 0xffffffff) with (14, 0x84e315de) with (19, 0xffffffff80000000)
    => (m1, 0xa1f9cd721f101fff) ∷
    row 818 0x7e80b1ae with (0, 0xffffffffffffffff) with (20, 0xffffffff7fffffff)
    with (22, 0x49eedb6) => (m1, 0xcfc236f49bf95bff) ∷
    row 819 0x7d1e39ae with (7, 0x184e862f0) with (8, 0xffffffff80000000) with (30, 0x80000000)
    => (m1, 0xc86697edf48b6e00) ∷
    row 820 0x7d7ff9ae with (11, 0) with (31, 0x80000002020a6571) => (m1, 0x5fce5b7428c65a00) ∷
    row 821 0x7ee229ae with (5, 0x922ce32b2e311e63) => (m1, 0x6b0d815b38aa1de3) ∷
    row 822 0x7f9cf9ae with (31, 0xb1bb253e548ea211) => (m1, 0xed5b5cf2436b932) ∷
    row 823 0x7e0ed1ae with (26, 0x18713ac0934884da) => (m1, 0x2cafa0a3eb6c2d19) ∷
    row 824 0x7fbde9ae with (29, 0x20251f2ec) => (m1, 0xdcd846058e4a7aec) ∷
    row 825 0x7d6d21ae with (4, 0xa0a6bdddab4d9ebf) => (m1, 0xd4cf5c80cd19ef7) ∷
    row 826 0x7c80b9ae with (23, 0x204bd23a2) => (m1, 0x89d9d0167019bbc) ∷
    row 827 0x7d5e41ae with (8, 0xde845bbf498134fc) => (m1, 0xce580c79cda6f43) ∷
    row 828 0x7ccf79ae with (15, 0x8000000202066b7a) with (at, 0x4040cd6ec)
    => (m1, 0x1ad0eceeae5c1c0e) ∷
    row 829 0x7fda49ae with (9, 0xdb203c225bd6d173) => (m1, 0x2b7941a29b86a150) ∷
    row 830 0x7ce7d9ae with (27, 0x282bd7a3fd10e8b1) => (m1, 0x4bff72b76459fe21) ∷
    row 831 0x7f1771ae with (14, 0x7115f2e4f1664722) => (m1, 0x6908385908d634da) ∷
    row 832 0x7f8061ae with (12, 0x2044f9e39) => (m1, 0x9c292e5b88fb4142) ∷
    row 833 0x7c3c39ae with (7, 0x2827586ff97f098f) => (m1, 0x9a261bd4e4c927a3) ∷
    row 834 0x7ee019ae with (3, 0x404ed5cd4) => (m1, 0xb4e1fdb1c3fe495) ∷
    row 835 0x7c4b89ae with (17, 0x2ff06c6119676e74) => (m1, 0x1be5d2422f5f7ab9) ∷
    row 836 0x7c8421ae with (4, 0x80000002020b7327) => (m1, 0x996e47361e27e827) ∷
    row 837 0x7e4119ae with (3, 0x3e57f536d50f2bbd) => (m1, 0xbca0be8ae8992fa5) ∷
    row 838 0x7d29d1ae with (26, 0xf82c38eb7f38930d) => (m1, 0x4689a46c8eb34d9a) ∷
    row 839 0x7f1e99ae with (19, 0x5219d7d120761f3c) => (m1, 0x7c56e0af107643b4) ∷
    row 840 0x7c2109ae with (1, 0x80000002025c0245) => (m1, 0x7d0014686de21245) ∷
    []) ∷
    -- lhzx
    group 0x0 (
    row 841 0x7fbcaa2e with (21, 0x4d7aae5) with (28, 0) with (m1, 0) => (29, 0) ∷
    row 842 0x7f608a2e with (0, 0x8000000000000000) with (17, 0x40484eea1) with (m1, 0xffffffff)
    => (27, 0xffff) ∷
    row 843 0x7c639a2e with (3, 0x7fffffff) with (19, 0xffffffff84bfcfc2)
    with (m1, 0x7fffffffffffffff) => (3, 0xffff) ∷
    row 844 0x7e3ce22e with (28, 0x8000000202442721) with (m1, 1) => (17, 1) ∷
    row 845 0x7d559a2e with (19, 0x2048914d2) with (21, 0xffffffffffffffff)
    with (m1, 0xffffffff7fffffff) => (10, 0xffff) ∷
    row 846 0x7cc60a2e with (1, 0x184c2236d) with (6, 0x80000000) with (m1, 0x80000000) => (6, 0) ∷
    row 847 0x7c4ae22e with (10, 0xffffffff7fffffff) with (28, 0x28488cf6c)
    with (m1, 0xffffffffffffffff) => (2, 0xffff) ∷
    row 848 0x7e318a2e with (17, 0x80000001026e8c66) with (m1, 0xffffffff80000000) => (17, 0) ∷
    row 849 0x7fb9aa2e with (21, 0x8000000204beff90) with (25, 0x7fffffffffffffff)
    with (m1, 0x7fffffff) => (29, 0xffff) ∷
    row 850 0x7f805a2e with (0, 0xffffffff) with (11, 0x4042e83b4) with (m1, 0x8000000000000000)
    => (28, 0) ∷
    row 851 0x7d6cca2e with (12, 1) with (25, 0x204d64fe6) with (m1, 1) => (11, 1) ∷
    row 852 0x7eed6a2e with (13, 0x202308768) with (m1, 0xffffffff7fffffff) with (at, 0x404610ec8)
    => (23, 0xffff) ∷
    row 853 0x7f7c1a2e with (3, 0x304796b1f) with (28, 0xffffffff) with (m1, 0x80000000) => (27, 0)
    ∷
    row 854 0x7e52c22e with (18, 0) with (24, 0x20474ba23) with (m1, 0xffffffffffffffff)
    => (18, 0xffff) ∷
    row 855 0x7e697a2e with (9, 0x8000000000000000) with (15, 0x8000000004fda68a)
    with (m1, 0xffffffff80000000) => (19, 0) ∷
    row 856 0x7c581a2e with (3, 0x184bedaff) with (24, 0x7fffffff) with (m1, 0x7fffffff)
    => (2, 0xffff) ∷
    row 857 0x7ee6822e with (6, 0xffffffff80000000) with (16, 0x284b8577f)
    with (m1, 0x8000000000000000) => (23, 0) ∷
    row 858 0x7ec02a2e with (0, 0xffffffffffffffff) with (5, 0x43f7163) with (m1, 0) => (22, 0) ∷
    row 859 0x7e18da2e with (24, 0x80000000) with (27, 0x384fed353) with (m1, 0xffffffff)
    => (16, 0xffff) ∷
    row 860 0x7e06322e with (6, 0x1027b3ea8) with (m1, 0x7fffffffffffffff) with (at, 0x204f67d48)
    => (16, 0xffff) ∷
    row 861 0x7fe23a2e with (7, 0x64b425bd660566d3) => (31, 0x1270) ∷
    row 862 0x7ca5a22e with (20, 0x72af229186bb4d29) => (5, 0x747f) ∷
    row 863 0x7ebda22e with (20, 0x2592f4c962c7f2da) => (21, 0xaeb6) ∷
    row 864 0x7ed6b22e with (22, 0x10203fae5) with (at, 0x20407f5c2) => (22, 0xc113) ∷
    row 865 0x7fdc7a2e with (15, 0x7501cd29a2b7be6) => (30, 0xab98) ∷
    row 866 0x7dc01a2e with (3, 0x204b7b7ac) => (14, 0x6e44) ∷
    row 867 0x7cb3422e with (8, 0x7ae4ddd213ee635a) => (5, 0x918) ∷
    row 868 0x7e70822e with (16, 0x8000000102244ce0) with (at, 0x2044899b8) => (19, 0x7c13) ∷
    row 869 0x7cb50a2e with (1, 0x4627df1e44805d48) => (5, 0xc735) ∷
    row 870 0x7d6b322e with (6, 0xd4e28e06cf33009) => (11, 0xea7e) ∷
    row 871 0x7ec0d22e with (26, 0x20472b3ee) => (22, 0xe5ee) ∷
    row 872 0x7c68da2e with (27, 0x55a380b250d7c9d6) => (3, 0xb986) ∷
    row 873 0x7e4d222e with (4, 0x424568c0e59b2a2f) => (18, 0x6545) ∷
    row 874 0x7e404a2e with (9, 0x404975690) => (18, 0xe92c) ∷
    row 875 0x7ecb722e with (14, 0xf6ddf989ab1b0da8) => (22, 0x4539) ∷
    row 876 0x7daf7a2e with (15, 0x202010766) => (13, 0x796e) ∷
    row 877 0x7d4ae22e with (28, 0xd635df3e6dc54ae7) => (10, 0x85ca) ∷
    row 878 0x7e31622e with (12, 0xb2fc9738b462ce6) => (17, 0x6a4e) ∷
    row 879 0x7df43a2e with (7, 0x50486c0210fc5d17) => (15, 0x26f8) ∷
    row 880 0x7d08422e with (8, 0x2681a9b) with (at, 0x4d0352e) => (8, 0xbbca) ∷
    []) ∷
    -- lhax
    group 0x0 (
    row 881 0x7fbb8aae with (17, 0x2041072f2) with (27, 0) with (m1, 0) => (29, 0) ∷
    row 882 0x7ea03aae with (0, 0x8000000000000000) with (7, 0x40433a365) with (m1, 0xffffffff)
    => (21, 0xffffffffffffffff) ∷
    row 883 0x7e8a2aae with (5, 0xffffffff84e4713c) with (10, 0x7fffffff)
    with (m1, 0x7fffffffffffffff) => (20, 0xffffffffffffffff) ∷
    row 884 0x7c494aae with (9, 0x1023c18e4) with (m1, 1) => (2, 1) ∷
    row 885 0x7ce5aaae with (5, 0xffffffffffffffff) with (21, 0x404443a63)
    with (m1, 0xffffffff7fffffff) => (7, 0xffffffffffffffff) ∷
    row 886 0x7fbd3aae with (7, 0xffffffff84488b0a) with (29, 0x80000000) with (m1, 0x80000000)
    => (29, 0) ∷
    row 887 0x7dba9aae with (19, 0x4848523bf) with (26, 0xffffffff7fffffff)
    with (m1, 0xffffffffffffffff) => (13, 0xffffffffffffffff) ∷
    row 888 0x7fdef2ae with (30, 0x80000001027d0240) with (m1, 0xffffffff80000000) => (30, 0) ∷
    row 889 0x7df012ae with (2, 0x8000000204fc82a5) with (16, 0x7fffffffffffffff)
    with (m1, 0x7fffffff) => (15, 0xffffffffffffffff) ∷
    row 890 0x7fc012ae with (0, 0xffffffff) with (2, 0x4043748d5) with (m1, 0x8000000000000000)
    => (30, 0) ∷
    row 891 0x7cded2ae with (26, 0x404aa5712) with (30, 1) with (m1, 1) => (6, 1) ∷
    row 892 0x7e8a52ae with (10, 0x10255815a) with (m1, 0xffffffff7fffffff)
    => (20, 0xffffffffffffffff) ∷
    row 893 0x7c42b2ae with (2, 0xffffffff) with (22, 0xffffffff048ea10e) with (m1, 0x80000000)
    => (2, 0) ∷
    row 894 0x7d082aae with (5, 0x455321d) with (8, 0) with (m1, 0xffffffffffffffff)
    => (8, 0xffffffffffffffff) ∷
    row 895 0x7ddb7aae with (15, 0x8000000404a9608f) with (27, 0x8000000000000000)
    with (m1, 0xffffffff80000000) => (14, 0) ∷
    row 896 0x7d3412ae with (2, 0xffffffff84e081bb) with (20, 0x7fffffff) with (m1, 0x7fffffff)
    => (9, 0xffffffffffffffff) ∷
    row 897 0x7f65caae with (5, 0xffffffff80000000) with (25, 0x2844feaf1)
    with (m1, 0x8000000000000000) => (27, 0) ∷
    row 898 0x7da012ae with (0, 0xffffffffffffffff) with (2, 0x4f79c36) with (m1, 0) => (13, 0) ∷
    row 899 0x7d1142ae with (8, 0x384d79587) with (17, 0x80000000) with (m1, 0xffffffff)
    => (8, 0xffffffffffffffff) ∷
    row 900 0x7fb9caae with (25, 0x10277eb73) with (m1, 0x7fffffffffffffff)
    => (29, 0xffffffffffffffff) ∷
    row 901 0x7f37d2ae with (26, 0x49e4e6eebee27f12) => (25, 0xfffffffffffffc73) ∷
    row 902 0x7f7b12ae with (2, 0x822609c937588276) => (27, 0x24a5) ∷
    row 903 0x7f61faae with (31, 0xb50e6f253e0aa51e) => (27, 0x24fe) ∷
    row 904 0x7cc632ae with (6, 0x241d672) => (6, 0xfffffffffffffd7f) ∷
    row 905 0x7f0052ae with (10, 0x4040aabd9) => (24, 0xffffffffffffae27) ∷
    row 906 0x7f80daae with (27, 0x4749d87) => (28, 0x36f6) ∷
    row 907 0x7d5612ae with (2, 0x61c5517aeec86041) => (10, 0xffffffffffff97ec) ∷
    row 908 0x7e4632ae with (6, 0x1024e01d9) with (at, 0x2049c03aa) => (18, 0xffffffffffffd109) ∷
    row 909 0x7f1582ae with (16, 0x4f2db1102da94a54) => (24, 0xffffffffffffe24e) ∷
    row 910 0x7c2102ae with (0, 0x26064f6744241f37) => (1, 0xffffffffffffcbba) ∷
    row 911 0x7ec39aae with (19, 0x884332d43fe53ceb) => (22, 0xffffffffffff8d4e) ∷
    row 912 0x7e7c32ae with (6, 0x8400e0d50f89134e) => (19, 0x2708) ∷
    row 913 0x7fb892ae with (18, 0x162b457d36a8a08a) => (29, 0xffffffffffff98ea) ∷
    row 914 0x7fc032ae with (6, 0x40403a21d) => (30, 0xffffffffffffe2f3) ∷
    row 915 0x7d8ebaae with (23, 0x7b8672c99460bb97) => (12, 0x524) ∷
    row 916 0x7e59caae with (25, 0x80000000022d19e3) => (18, 0xffffffffffffff7c) ∷
    row 917 0x7e1252ae with (10, 0xe3df4a11c3d06964) => (16, 0xffffffffffffd1fb) ∷
    row 918 0x7fff0aae with (1, 0xd628b35f012a805f) => (31, 0x7ca1) ∷
    row 919 0x7ec9e2ae with (28, 0x8dce5299d374138f) => (22, 0xffffffffffffff6e) ∷
    row 920 0x7c8422ae with (4, 0x202000684) with (at, 0x404000d00) => (4, 0x5a63) ∷
    []) ∷
    -- sthx
    group 0x0 (
    row 921 0x7e95232e with (4, 0x460e226) with (20, 0) with (21, 0) => (m1, 0xcb0364f88e5a0000) ∷
    row 922 0x7d008b2e with (0, 0x8000000000000000) with (8, 1) with (17, 0x4a4a9fa)
    => (m1, 0xd9251ec447db0001) ∷
    row 923 0x7f69632e with (9, 0x7fffffff) with (12, 0xffffffff8420b9dc)
    with (27, 0xffffffffffffffff) => (m1, 0xc54e551cdd05ffff) ∷
    row 924 0x7d58c32e with (10, 0x8000000000000000) with (24, 0x23fde3a)
    => (m1, 0xe60ad3d64dd80000) ∷
    row 925 0x7f9c7b2e with (15, 0x404c1b1c5) with (28, 0xffffffffffffffff)
    => (m1, 0xd1a34a069a53ffff) ∷
    row 926 0x7e94732e with (14, 0x384914477) with (20, 0x80000000) => (m1, 0x11ebbec3c2780000) ∷
    row 927 0x7f35c32e with (21, 0xffffffff7fffffff) with (24, 0x84991f39) with (25, 0x7fffffff)
    => (m1, 0x101ef9e1c645ffff) ∷
    row 928 0x7f5ad32e with (26, 0x102174bad) => (m1, 0x5cc7df8ca5bb4bad) ∷
    row 929 0x7c93d32e with (4, 0xffffffff7fffffff) with (19, 0x7fffffffffffffff)
    with (26, 0x800000020451ace0) => (m1, 0x6d95df9860daffff) ∷
    row 930 0x7e203b2e with (0, 0xffffffff) with (7, 0x4025fc7) with (17, 0xffffffff80000000)
    => (m1, 0x493fd71af7a20000) ∷
    row 931 0x7fa75b2e with (7, 1) with (11, 0x4960565) with (29, 1) => (m1, 0xea07fb2a6a120001) ∷
    row 932 0x7c28432e with (1, 0xffffffffffffffff) with (8, 0x2025ba433) with (at, 0x404b7485e)
    => (m1, 0xd84cb79ab82cffff) ∷
    row 933 0x7ec2232e with (2, 0xffffffff) with (4, 0xffffffff04bb7e22)
    with (22, 0x8000000000000000) => (m1, 0x85754c97e1ee0000) ∷
    row 934 0x7f392b2e with (5, 0x404f7fbe7) with (25, 0) => (m1, 0x8654cdf5e7590000) ∷
    row 935 0x7f79b32e with (22, 0x8000000204c21710) with (25, 0x8000000000000000)
    with (27, 0x80000000) => (m1, 0x3fddd3e0c86e0000) ∷
    row 936 0x7d348b2e with (9, 0x7fffffff) with (17, 0x38419cf9c) with (20, 0x7fffffff)
    => (m1, 0x53581a2c852affff) ∷
    row 937 0x7fe8532e with (8, 0xffffffff80000000) with (10, 0x284ff2589) with (31, 0xffffffff)
    => (m1, 0x31ae57ef1d90ffff) ∷
    row 938 0x7c00732e with (0, 0xffffffffffffffff) with (14, 0x4047218d9)
    => (m1, 0x3f569c3e919fffff) ∷
    row 939 0x7d79eb2e with (11, 0xffffffff80000000) with (25, 0x80000000)
    with (29, 0xffffffff841d5437) => (m1, 0x30479eeee1560000) ∷
    row 940 0x7ea6332e with (6, 0x8000000102006bd0) with (21, 0) with (at, 0x20400d798)
    => (m1, 0x4a50542c0cb60000) ∷
    row 941 0x7fefeb2e with (29, 0xaeb4b244513050d8) => (m1, 0x4ddc1bca13bf92d2) ∷
    row 942 0x7c63132e with (2, 0xe98b55ccba5569b0) => (m1, 0x744541f4f6714ced) ∷
    row 943 0x7cb61b2e with (3, 0x4e9844b0507cbf76) => (m1, 0x8a6bce80b4ccd9c2) ∷
    row 944 0x7c00032e with (0, 0x204c1b5cd) => (m1, 0x6b6e52834ed0b5cd) ∷
    row 945 0x7e90032e with (0, 0x9c307b655d4e9ca0) => (m1, 0xe5f6b712c47c8ea5) ∷
    row 946 0x7fe0632e with (12, 0x4f3d532) => (m1, 0xd994000315d10560) ∷
    row 947 0x7cf8232e with (4, 0x888633eaf71dfde0) => (m1, 0x607cd58042d029a0) ∷
    row 948 0x7cbef32e with (30, 0x800000020258dfba) with (at, 0x404b1bf6c)
    => (m1, 0x66b4e35e4b770015) ∷
    row 949 0x7e6a3b2e with (7, 0x9c84b0f3afc39086) => (m1, 0xf9fe29c92fc612a3) ∷
    row 950 0x7def3b2e with (7, 0x7bead6f81a4c1af9) => (m1, 0x12d0fc94efbfaef5) ∷
    row 951 0x7dd7532e with (10, 0x54a3f71152c1006a) => (m1, 0xf67fc6d78b617565) ∷
    row 952 0x7c8a632e with (12, 0x2a2706880b134708) => (m1, 0xdde84ba702abf79d) ∷
    row 953 0x7cddbb2e with (23, 0x51ed5e862461440e) => (m1, 0xd431dad7559e8709) ∷
    row 954 0x7fe0fb2e with (31, 0x4323f7b) => (m1, 0xc7fad094843a3f7b) ∷
    row 955 0x7fa3fb2e with (31, 0xe0f17cd47e6b60ef) => (m1, 0xd0df24b28e7fccf5) ∷
    row 956 0x7fa2132e with (2, 0x20264fff2) with (at, 0x404c9ffdc) => (m1, 0xa49f7047746db406) ∷
    row 957 0x7ce51b2e with (3, 0x15febd35be3c19b8) => (m1, 0xec87a46936048921) ∷
    row 958 0x7c84232e with (4, 0x8000000102217042) => (m1, 0xd2e2b4ebd3437042) ∷
    row 959 0x7e55eb2e with (29, 0x1207d33df7c9ec87) => (m1, 0x272b59fb4c2b1919) ∷
    row 960 0x7e52932e with (18, 0x10223c601) => (m1, 0x20212f6ba0bcc601) ∷
    []) ∷
    -- lfsx
    group 0x0 (
    row 961 0x7c7a4c2e with (9, 0x473a32a) with (26, 0) with (m1, 0x80ca456800000000) => (35, 0) ∷
    row 962 0x7ec04c2e with (0, 0x8000000000000000) with (9, 0x40482ad09)
    with (m1, 0x8c5adfc680000000) => (54, 0x8000000000000000) ∷
    row 963 0x7db0ac2e with (16, 0x7fffffff) with (21, 0xffffffff841f544d)
    with (m1, 0x62c7719b00000001) => (45, 0x36a0000000000000) ∷
    row 964 0x7cbffc2e with (31, 0x80000002024f7722) with (m1, 0x178fc5fd007fffff)
    with (at, 0x4049eee3c) => (37, 0x380fffffc0000000) ∷
    row 965 0x7f33e42e with (19, 0xffffffffffffffff) with (28, 0x40456d04d)
    with (m1, 0x971cc080000100) => (57, 0xb720000000000000) ∷
    row 966 0x7f18f42e with (24, 0x80000000) with (30, 0x38446fa60) with (m1, 0xc1bfe20f00800000)
    => (56, 0x3810000000000000) ∷
    row 967 0x7ebe0c2e with (1, 0x4846f6c82) with (30, 0xffffffff7fffffff)
    with (m1, 0xbd61fdbf3f800000) => (53, 0x3ff0000000000000) ∷
    row 968 0x7d6b5c2e with (11, 0x2681358) with (m1, 0x8aeb33fd7f7fffff)
    => (43, 0x47efffffe0000000) ∷
    row 969 0x7e941c2e with (3, 0x8000000404be7e41) with (20, 0x7fffffffffffffff)
    with (m1, 0x9928149b7f800000) => (52, 0x7ff0000000000000) ∷
    row 970 0x7f40c42e with (0, 0xffffffff) with (24, 0x204e51dde) with (m1, 0x7240ecb0ff800000)
    => (58, 0xfff0000000000000) ∷
    row 971 0x7e5ddc2e with (27, 0x4440588) with (29, 1) with (m1, 0x93e961517fc00000)
    => (50, 0x7ff8000000000000) ∷
    row 972 0x7e0b5c2e with (11, 0x800000010218454b) with (m1, 0x7f9cfe547f800001)
    => (48, 0x7ff0000020000000) ∷
    row 973 0x7f109c2e with (16, 0xffffffff) with (19, 0x10400025c) with (m1, 0xada5e3e4ffffffff)
    => (56, 0xffffffffe0000000) ∷
    row 974 0x7d4aec2e with (10, 0) with (29, 0x4b26cd8) with (m1, 0xabf445d480000000)
    => (42, 0x8000000000000000) ∷
    row 975 0x7f8a0c2e with (1, 0x8000000204f274b7) with (10, 0x8000000000000000)
    with (m1, 0xe65d9c5100000001) => (60, 0x36a0000000000000) ∷
    row 976 0x7d87042e with (0, 0xffffffff84156f4f) with (7, 0x7fffffff)
    with (m1, 0xf746c32f007fffff) => (44, 0x380fffffc0000000) ∷
    row 977 0x7edc4c2e with (9, 0x8470b1f2) with (28, 0xffffffff80000000)
    with (m1, 0xd30be18480000100) => (54, 0xb720000000000000) ∷
    row 978 0x7f40442e with (0, 0xffffffffffffffff) with (8, 0x204043ca3)
    with (m1, 0x6194766600800000) => (58, 0x3810000000000000) ∷
    row 979 0x7da3cc2e with (3, 0x80000000) with (25, 0x3842564b6) with (m1, 0x4ff459a83f800000)
    => (45, 0x3ff0000000000000) ∷
    row 980 0x7f50842e with (16, 0x800000000214bfc1) with (m1, 0xeadd5f787f7fffff)
    => (58, 0x47efffffe0000000) ∷
    row 981 0x7f9fb42e with (22, 0x8ce78d46e1050b) => (60, 0xc0bff619e0000000) ∷
    row 982 0x7f18b42e with (22, 0xbb0a15c2814cc10d) => (56, 0xc7626ca8c0000000) ∷
    row 983 0x7cdb0c2e with (1, 0xe979853e81d0fc69) => (38, 0x3979fe3ca0000000) ∷
    row 984 0x7eb5ac2e with (21, 0x2020bb2ee) => (53, 0xc706aad580000000) ∷
    row 985 0x7d995c2e with (11, 0xd9cc67b537fe5ca2) => (44, 0xc008727320000000) ∷
    row 986 0x7f60e42e with (28, 0x404e00958) => (59, 0x447f5515c0000000) ∷
    row 987 0x7f4fbc2e with (23, 0xe2c40038cdc83675) => (58, 0xc46b52bd40000000) ∷
    row 988 0x7cb18c2e with (17, 0x80000001026f912f) => (37, 0x3fcc6b69a0000000) ∷
    row 989 0x7f18f42e with (30, 0x37966f444819c2a8) => (56, 0x46a29f1ae0000000) ∷
    row 990 0x7ef74c2e with (9, 0xe037930e46797bcf) => (55, 0xb8ededd120000000) ∷
    row 991 0x7f97642e with (12, 0xa3719563b4642fcd) => (60, 0x46ae578c40000000) ∷
    row 992 0x7ff0542e with (10, 0xf1908b456f57afb6) => (63, 0x3fe3dc4c60000000) ∷
    row 993 0x7f742c2e with (5, 0x98772c84a422b57f) => (59, 0xc48e7c1140000000) ∷
    row 994 0x7d20ec2e with (29, 0x204232ea9) => (41, 0x44ae36db20000000) ∷
    row 995 0x7e8d3c2e with (7, 0x85b210360272fd66) => (52, 0xc0430ca9e0000000) ∷
    row 996 0x7e6f7c2e with (15, 0x2027e0eea) with (at, 0x404fc1dcc) => (51, 0xc74cfd7da0000000) ∷
    row 997 0x7f180c2e with (1, 0xf3dbdb28d3718472) => (56, 0x39cc095640000000) ∷
    row 998 0x7c42c42e with (24, 0xce799bba6e73100a) => (34, 0xc7c03033a0000000) ∷
    row 999 0x7f9e3c2e with (7, 0x928cc57595f628a9) => (60, 0xc129721620000000) ∷
    row 1000 0x7d08442e with (8, 0x8000000202535910) => (40, 0x4607cefd60000000) ∷
    []) ∷
    -- lfdx
    group 0x0 (
    row 1001 0x7fe1e4ae with (1, 0) with (28, 0x404f360a9) with (m1, 0) => (63, 0) ∷
    row 1002 0x7da044ae with (0, 0x8000000000000000) with (8, 0x2042301ea) with (m1, 0xffffffff)
    => (45, 0xffffffff) ∷
    row 1003 0x7dd954ae with (10, 0x3843595e3) with (25, 0x7fffffff) with (m1, 0x7fffffffffffffff)
    => (46, 0x7fffffffffffffff) ∷
    row 1004 0x7feb5cae with (11, 0x1026ae39e) with (m1, 1) with (at, 0x204d5c734) => (63, 1) ∷
    row 1005 0x7c2bbcae with (11, 0xffffffffffffffff) with (23, 0x204ae40a6)
    with (m1, 0xffffffff7fffffff) => (33, 0xffffffff7fffffff) ∷
    row 1006 0x7c0054ae with (0, 0x80000000) with (10, 0x204bf021a) with (m1, 0x80000000)
    => (32, 0x80000000) ∷
    row 1007 0x7d643cae with (4, 0xffffffff7fffffff) with (7, 0x4845d60f2)
    with (m1, 0xffffffffffffffff) => (43, 0xffffffffffffffff) ∷
    row 1008 0x7dad6cae with (13, 0x80000000021a03eb) with (m1, 0xffffffff80000000)
    => (45, 0xffffffff80000000) ∷
    row 1009 0x7c6a4cae with (9, 0x800000040442f6c8) with (10, 0x7fffffffffffffff)
    with (m1, 0x7fffffff) => (35, 0x7fffffff) ∷
    row 1010 0x7d40acae with (0, 0xffffffff) with (21, 0x2048a2dc6) with (m1, 0x8000000000000000)
    => (42, 0x8000000000000000) ∷
    row 1011 0x7f4facae with (15, 1) with (21, 0x409acd1) with (m1, 1) => (58, 1) ∷
    row 1012 0x7cec64ae with (12, 0x8000000202360f4a) with (m1, 0xffffffff7fffffff)
    with (at, 0x4046c1e8c) => (39, 0xffffffff7fffffff) ∷
    row 1013 0x7d8ae4ae with (10, 0xffffffff) with (28, 0xffffffff04b18312) with (m1, 0x80000000)
    => (44, 0x80000000) ∷
    row 1014 0x7d4afcae with (10, 0) with (31, 0x2042f2f99) with (m1, 0xffffffffffffffff)
    => (42, 0xffffffffffffffff) ∷
    row 1015 0x7fe914ae with (2, 0x80000000043a7984) with (9, 0x8000000000000000)
    with (m1, 0xffffffff80000000) => (63, 0xffffffff80000000) ∷
    row 1016 0x7c36b4ae with (22, 0x23f05be) with (m1, 0x7fffffff) => (33, 0x7fffffff) ∷
    row 1017 0x7deb5cae with (11, 0x80000000027cf2c0) with (m1, 0x8000000000000000)
    with (at, 0x4f9e578) => (47, 0x8000000000000000) ∷
    row 1018 0x7d4064ae with (0, 0xffffffffffffffff) with (12, 0x4ae0793) with (m1, 0) => (42, 0) ∷
    row 1019 0x7cb2f4ae with (18, 0x80000000) with (30, 0x184efc707) with (m1, 0xffffffff)
    => (37, 0xffffffff) ∷
    row 1020 0x7f9bdcae with (27, 0x234e744) with (m1, 0x7fffffffffffffff) with (at, 0x469ce80)
    => (60, 0x7fffffffffffffff) ∷
    row 1021 0x7f4c1cae with (3, 0xe3227c953e596ca4) => (58, 0xddaf7a6457867b28) ∷
    row 1022 0x7d291cae with (3, 0x5e7ee5a1f3f722cc) => (41, 0xa6f4fa9ddefbf5c2) ∷
    row 1023 0x7c82b4ae with (22, 0xc4291809da53c948) => (36, 0x16dd8f64421a4884) ∷
    row 1024 0x7ed6b4ae with (22, 0x20217b3de) => (54, 0xf2bdd48b80e1736d) ∷
    row 1025 0x7cefdcae with (27, 0x9bcc09e0cf7be28b) => (39, 0x6f06da3f9b51767d) ∷
    row 1026 0x7c00ccae with (25, 0x48e8f50) => (32, 0x5d81e454916a51b5) ∷
    row 1027 0x7d1404ae with (0, 0x9de16739a74eaf7e) => (40, 0xe62b5af6632c0514) ∷
    row 1028 0x7da844ae with (8, 0x202121636) => (45, 0xe74129f91096909a) ∷
    row 1029 0x7d69e4ae with (28, 0xd89f316f39bec86d) => (43, 0xb332f07299a9f447) ∷
    row 1030 0x7ef71cae with (3, 0x5c09fb141bd93653) => (55, 0x8ffba578fe66301c) ∷
    row 1031 0x7d2364ae with (12, 0xd286bc75b0730adb) => (41, 0x6e8830e03ecb4418) ∷
    row 1032 0x7d2b4cae with (9, 0x58ef1a8ceacfe8fe) => (41, 0x57b156d45ad9303b) ∷
    row 1033 0x7f6264ae with (12, 0x6b541b5ddccc3c26) => (59, 0x48d8a729528ff485) ∷
    row 1034 0x7ca0e4ae with (28, 0x4d66fa8) => (37, 0x3e623e0b25ef90f7) ∷
    row 1035 0x7e23ccae with (25, 0xc55b8d24ad584250) => (49, 0x4224534dd4f80590) ∷
    row 1036 0x7dbdecae with (29, 0x800000020222f175) with (at, 0x40445e2e2)
    => (45, 0x10c260075fa95250) ∷
    row 1037 0x7d8724ae with (4, 0xa3508c775107db36) => (44, 0x5a6b354dc6037738) ∷
    row 1038 0x7cc67cae with (15, 0xc886b8907f832d75) => (38, 0x3ba406f508067447) ∷
    row 1039 0x7fa12cae with (5, 0xa694c2581769c6aa) => (61, 0x91ad4d2925b2497d) ∷
    row 1040 0x7f5ad4ae with (26, 0x2641508) => (58, 0x8580e3be1f06f6da) ∷
    []) ∷
    -- stfsx
    group 0x0 (
    row 1041 0x7da7ad2e with (7, 0) with (13, 0) with (21, 0x204e01aa4) with (45, 0)
    => (m1, 0x443071c900000000) ∷
    row 1042 0x7d202d2e with (0, 0x8000000000000000) with (5, 0x404dafdf0) with (9, 1)
    with (41, 0x8000000000000000) => (m1, 0xee58f66280000000) ∷
    row 1043 0x7c0ad52e with (0, 0xffffffffffffffff) with (10, 0x7fffffff) with (26, 0x184637ea0)
    with (32, 0x36a0000000000000) => (m1, 0xbfa3495c00000001) ∷
    row 1044 0x7e431d2e with (3, 0x8000000202677902) with (18, 0x8000000000000000)
    with (50, 0xb6b8000000000000) with (at, 0x404cef1fc) => (m1, 0x762c3ee280000003) ∷
    row 1045 0x7f4aed2e with (10, 0xffffffffffffffff) with (26, 0x7fffffffffffffff)
    with (29, 0x20472ad7a) with (58, 0x380fffffe0000000) => (m1, 0x5a1156c9007fffff) ∷
    row 1046 0x7e10e52e with (16, 0x80000000) with (28, 0x184a4064f) with (48, 0x3810000000000000)
    => (m1, 0x1cfabd3d00800000) ∷
    row 1047 0x7d94852e with (12, 0x7fffffff) with (16, 0x48462fc88) with (20, 0xffffffff7fffffff)
    with (44, 0x3ff0000000000000) => (m1, 0x137a9a123f800000) ∷
    row 1048 0x7d8c652e with (12, 0x10257c811) with (44, 0x47efffffe0000000)
    => (m1, 0xd4d66e5e7f7fffff) ∷
    row 1049 0x7c62552e with (2, 0x7fffffffffffffff) with (3, 0xffffffff7fffffff)
    with (10, 0x800000020489c120) with (35, 0x7ff0000000000000) => (m1, 0xebdf13377f800000) ∷
    row 1050 0x7f609d2e with (0, 0xffffffff) with (19, 0x4049c3a29) with (27, 0xffffffff80000000)
    with (59, 0xfff0000000000000) => (m1, 0xbfd5ac71ff800000) ∷
    row 1051 0x7f58052e with (0, 0x4e6fb40) with (24, 1) with (26, 1) with (58, 0x7ff8000000000000)
    => (m1, 0xe33ec2377fc00000) ∷
    row 1052 0x7e0b5d2e with (11, 0x80000000025facdd) with (16, 0xffffffffffffffff)
    with (48, 0x7ff0000020000000) with (at, 0x4bf59b2) => (m1, 0xc9d0205e7f800001) ∷
    row 1053 0x7eadd52e with (13, 0xffffffff) with (21, 0x8000000000000000)
    with (26, 0xffffffff04255598) with (53, 0xffffffffffffffff) => (m1, 0xf999a712ffffffff) ∷
    row 1054 0x7e10dd2e with (16, 0) with (27, 0x40418eed5) with (48, 0xc00fffffffffffff)
    => (m1, 0xf2c5ca27c07fffff) ∷
    row 1055 0x7c29752e with (1, 0x80000000) with (9, 0x8000000000000000)
    with (14, 0x800000040444d021) with (33, 0x7fefffffffffffff) => (m1, 0xb6cde4b37f7fffff) ∷
    row 1056 0x7dbc7d2e with (13, 0x7fffffff) with (15, 0xffffffff8453a426) with (28, 0x7fffffff)
    with (45, 0x3a3f8d5aa3a30129) => (m1, 0x3ab6a9cc11fc6ad5) ∷
    row 1057 0x7e9d852e with (16, 0x4849ac035) with (20, 0xffffffff) with (29, 0xffffffff80000000)
    with (52, 0xba3b33cc89ef5c95) => (m1, 0x1159894591d99e64) ∷
    row 1058 0x7c40ad2e with (0, 0xffffffffffffffff) with (2, 0xffffffff7fffffff)
    with (21, 0x2041a2453) with (34, 0xdb8c7310f668893b) => (m1, 0xa1a2bf4cdc639887) ∷
    row 1059 0x7c515d2e with (2, 0xffffffff80000000) with (11, 0xffffffff84d1d07e)
    with (17, 0x80000000) with (34, 0x77b2dd0854ad2abe) => (m1, 0x8ae063b37d96e842) ∷
    row 1060 0x7cdad52e with (6, 0) with (26, 0x800000000260e25b) with (38, 0x5a6c5a680429cedd)
    => (m1, 0x278a0aa75362d340) ∷
    row 1061 0x7e66bd2e with (23, 0xbb6fd56780c1b5ef) with (51, 0x4b469747c6a7a337)
    => (m1, 0x236273fc5a34ba3e) ∷
    row 1062 0x7cc67d2e with (15, 0x9054341ee6b553af) with (38, 0xec13b8d6283ac1c4)
    => (m1, 0xea16d4c8e09dc6b1) ∷
    row 1063 0x7fc8752e with (14, 0xde5d5f7994842b03) with (62, 0x637ef18d360061a2)
    => (m1, 0xdadfba215bf78c69) ∷
    row 1064 0x7ce73d2e with (7, 0x1025a330c) with (39, 0xc7393d6c0ad1bab8)
    => (m1, 0xb42edfdaf9c9eb60) ∷
    row 1065 0x7e52b52e with (22, 0x44cb451122958be5) with (50, 0x5e6e9e41d3dc10ea)
    => (m1, 0xb15836217374f20e) ∷
    row 1066 0x7ea0dd2e with (27, 0x20454bc6d) with (53, 0xfdcd18550d6dff6a)
    => (m1, 0x9d4220c8ee68c2a8) ∷
    row 1067 0x7d9fdd2e with (27, 0x1c7e8f7c989e00ad) with (44, 0x5d8618567ccb5a95)
    => (m1, 0x540802e66c30c2b3) ∷
    row 1068 0x7e02152e with (2, 0x800000000215c426) with (48, 0xf936e62ffd586ba9)
    => (m1, 0xa5509791c9b7317f) ∷
    row 1069 0x7fe9252e with (4, 0xb62a47a82071191) with (63, 0xe3bd469e5aa30861)
    => (m1, 0x6eb13e9dddea34f2) ∷
    row 1070 0x7ef71d2e with (3, 0x8400dc431109a28b) with (55, 0xf6adb4c6bca6e9c9)
    => (m1, 0xcc5a4436f56da635) ∷
    row 1071 0x7cac2d2e with (5, 0x7492f918e99df36d) with (37, 0x3f6b78378b64e36d)
    => (m1, 0xa855b02f3b5bc1bc) ∷
    row 1072 0x7f2efd2e with (31, 0x825c16709ff84452) with (57, 0x4cda61b9ef2443f0)
    => (m1, 0x125f26b666d30dcf) ∷
    row 1073 0x7cbe1d2e with (3, 0xb0882f87b1349794) with (37, 0xf9c7e171fb084fba)
    => (m1, 0xf5579dce3f0b8f) ∷
    row 1074 0x7ea02d2e with (5, 0x204f6ad22) with (53, 0xd9502a0f02209bac)
    => (m1, 0xba677ffbca815078) ∷
    row 1075 0x7db5652e with (12, 0xf3d93067a9e77a45) with (45, 0x592ea600e38b9155)
    => (m1, 0x789034e649753007) ∷
    row 1076 0x7f20052e with (0, 0x4a74f28) with (57, 0xf150d7d4a0d86a0d)
    => (m1, 0x449d2232ca86bea5) ∷
    row 1077 0x7c52d52e with (26, 0x6361b77d41a720fc) with (34, 0x4ad51da867bbc685)
    => (m1, 0xf26480b56a8ed43) ∷
    row 1078 0x7ce7852e with (16, 0xcc01387b5ffa651d) with (39, 0xc205d83b255b3c59)
    => (m1, 0xedcdfa44d02ec1d9) ∷
    row 1079 0x7ef7cd2e with (25, 0xfd0812893be06924) with (55, 0x44b5114f74291f3e)
    => (m1, 0xc4b7910b65a88a7b) ∷
    row 1080 0x7d294d2e with (9, 0x10200a492) with (41, 0xc796d13962711344) with (at, 0x20401491c)
    => (m1, 0xb5fa0832fcb689cb) ∷
    []) ∷
    -- stfdx
    group 0x0 (
    row 1081 0x7cf325ae with (4, 0x40439d11a) with (7, 0) with (19, 0) with (39, 0) => (m1, 0) ∷
    row 1082 0x7fe095ae with (0, 0x8000000000000000) with (18, 0x4554bc8) with (31, 1) with (63, 1)
    => (m1, 1) ∷
    row 1083 0x7fd3bdae with (19, 0x7fffffff) with (23, 0xffffffff84a90e83)
    with (30, 0xffffffffffffffff) with (62, 0xffffffffffffffff) => (m1, 0xffffffffffffffff) ∷
    row 1084 0x7cca55ae with (6, 0x8000000000000000) with (10, 0x26fe1fa)
    with (38, 0x8000000000000000) => (m1, 0x8000000000000000) ∷
    row 1085 0x7fd24dae with (9, 0x404a416c9) with (18, 0xffffffffffffffff)
    with (30, 0x7fffffffffffffff) with (62, 0x7fffffffffffffff) => (m1, 0x7fffffffffffffff) ∷
    row 1086 0x7ed645ae with (8, 0xffffffff84a0b1aa) with (22, 0x80000000) with (54, 0x80000000)
    => (m1, 0x80000000) ∷
    row 1087 0x7dfd5dae with (11, 0x842ae9ef) with (15, 0x7fffffff) with (29, 0xffffffff7fffffff)
    with (47, 0x7fffffff) => (m1, 0x7fffffff) ∷
    row 1088 0x7cc635ae with (6, 0x800000000276b51f) with (38, 0xffffffff) with (at, 0x4ed6a36)
    => (m1, 0xffffffff) ∷
    row 1089 0x7e4af5ae with (10, 0x7fffffffffffffff) with (18, 0xffffffff7fffffff)
    with (30, 0x8000000204e8329e) with (50, 0xffffffff7fffffff) => (m1, 0xffffffff7fffffff) ∷
    row 1090 0x7c80ddae with (0, 0xffffffff) with (4, 0xffffffff80000000) with (27, 0x470985e)
    with (36, 0xffffffff80000000) => (m1, 0xffffffff80000000) ∷
    row 1091 0x7f0295ae with (2, 1) with (18, 0x204dbf0d5) with (24, 1) with (56, 1) => (m1, 1) ∷
    row 1092 0x7d96b5ae with (12, 0xffffffffffffffff) with (22, 0x26a7358)
    with (44, 0xffffffffffffffff) with (at, 0x4d4e6a8) => (m1, 0xffffffffffffffff) ∷
    row 1093 0x7e5295ae with (18, 0x800000020203124c) with (50, 0x8000000000000000)
    => (m1, 0x8000000000000000) ∷
    row 1094 0x7c21fdae with (1, 0) with (31, 0x4046faa8d) with (33, 0x7fffffffffffffff)
    => (m1, 0x7fffffffffffffff) ∷
    row 1095 0x7d6d2dae with (5, 0x800000000466cde5) with (11, 0x80000000)
    with (13, 0x8000000000000000) with (43, 0x80000000) => (m1, 0x80000000) ∷
    row 1096 0x7c1cddae with (0, 0x7fffffff) with (27, 0x18496394a) with (28, 0x7fffffff)
    with (32, 0x7fffffff) => (m1, 0x7fffffff) ∷
    row 1097 0x7d42fdae with (2, 0xffffffff80000000) with (10, 0xffffffff) with (31, 0x84fdecbb)
    with (42, 0xffffffff) => (m1, 0xffffffff) ∷
    row 1098 0x7d00b5ae with (0, 0xffffffffffffffff) with (8, 0xffffffff7fffffff)
    with (22, 0x4049de839) with (40, 0xffffffff7fffffff) => (m1, 0xffffffff7fffffff) ∷
    row 1099 0x7d0e5dae with (8, 0xffffffff80000000) with (11, 0x384cb811a) with (14, 0x80000000)
    with (40, 0xffffffff80000000) => (m1, 0xffffffff80000000) ∷
    row 1100 0x7cad6dae with (5, 0) with (13, 0x800000020218b104) with (37, 0) => (m1, 0) ∷
    row 1101 0x7ce3bdae with (23, 0x9b8e2292dd14b3c9) => (m1, 0xa987684804356079) ∷
    row 1102 0x7cc6cdae with (25, 0x45e3836f483865d2) => (m1, 0x27714435f5b94b03) ∷
    row 1103 0x7ce98dae with (17, 0xb066db8bfa42846c) => (m1, 0xb9346995cc7c46f) ∷
    row 1104 0x7ffffdae with (31, 0x1027ddb22) => (m1, 0x2e42333c519bddcf) ∷
    row 1105 0x7f3ff5ae with (30, 0xb059600fdbf1747f) => (m1, 0x10c749f00ba74cf7) ∷
    row 1106 0x7c4055ae with (10, 0x204dd3b5b) => (m1, 0x119ebcb271dcca68) ∷
    row 1107 0x7e413dae with (7, 0xec46e93c1e03bcc4) => (m1, 0x7619541be060330) ∷
    row 1108 0x7c38c5ae with (24, 0x1022545a8) with (at, 0x2044a8b48) => (m1, 0xed3a08ca59ae8153) ∷
    row 1109 0x7da1edae with (29, 0x1a488639c29b3732) => (m1, 0x84a0c7c578c21081) ∷
    row 1110 0x7c00edae with (29, 0x20498fb7b) => (m1, 0x9fec937d2c2bd123) ∷
    row 1111 0x7c4b8dae with (17, 0xe3e1ae8f385e0b99) => (m1, 0xe82eb19216c6b82f) ∷
    row 1112 0x7e535dae with (11, 0x88e6cded147e3ede) => (m1, 0xa53b3a88d1e0ed47) ∷
    row 1113 0x7e3fddae with (27, 0x305f74ea22dc92c4) => (m1, 0x21aaf1d3718ab140) ∷
    row 1114 0x7f801dae with (3, 0x204d93c6d) => (m1, 0xc01da56359d1b1fe) ∷
    row 1115 0x7cc435ae with (6, 0x6881d06ffd04d994) => (m1, 0x8366b8192d849abe) ∷
    row 1116 0x7d652dae with (5, 0x8000000002103145) => (m1, 0xfefea41763c2927a) ∷
    row 1117 0x7ff5edae with (29, 0x28640b4ca02e33a4) => (m1, 0xb46c92fbd6a7bf1) ∷
    row 1118 0x7ed625ae with (4, 0xedb8a041731e9ab) => (m1, 0xa53f325bcb6b75f8) ∷
    row 1119 0x7ea3fdae with (31, 0xd6fec9360cafff99) => (m1, 0x5028b39d45778a88) ∷
    row 1120 0x7d8c65ae with (12, 0x1027e5d05) with (at, 0x204fcba02) => (m1, 0x84a867f0ca8cf696) ∷
    []) ∷
    -- ldx
    group 0x0 (
    row 1121 0x7cda482a with (9, 0x20400840c) with (26, 0) with (m1, 0) => (6, 0) ∷
    row 1122 0x7e40a82a with (0, 0x8000000000000000) with (21, 0x4e740c5) with (m1, 0xffffffff)
    => (18, 0xffffffff) ∷
    row 1123 0x7e3f682a with (13, 0x384b0f036) with (31, 0x7fffffff) with (m1, 0x7fffffffffffffff)
    => (17, 0x7fffffffffffffff) ∷
    row 1124 0x7d3ce02a with (28, 0x8000000202041e84) with (m1, 1) => (9, 1) ∷
    row 1125 0x7d79202a with (4, 0x204427c94) with (25, 0xffffffffffffffff)
    with (m1, 0xffffffff7fffffff) => (11, 0xffffffff7fffffff) ∷
    row 1126 0x7e31c82a with (17, 0x80000000) with (25, 0xffffffff84b5042b) with (m1, 0x80000000) ∷
    row 1127 0x7d2d882a with (13, 0xffffffff7fffffff) with (17, 0x4840a7e7b)
    with (m1, 0xffffffffffffffff) => (9, 0xffffffffffffffff) ∷
    row 1128 0x7e31882a with (17, 0x22175c1) with (m1, 0xffffffff80000000)
    => (17, 0xffffffff80000000) ∷
    row 1129 0x7f20902a with (0, 0x7fffffffffffffff) with (18, 0x45e4b41) with (m1, 0x7fffffff)
    => (25, 0x7fffffff) ∷
    row 1130 0x7ce0602a with (0, 0xffffffff) with (12, 0x404074862) with (m1, 0x8000000000000000)
    => (7, 0x8000000000000000) ∷
    row 1131 0x7c67b82a with (7, 1) with (23, 0x204e88d90) with (m1, 1) => (3, 1) ∷
    row 1132 0x7d77b82a with (23, 0x8000000002010d66) with (m1, 0xffffffff7fffffff)
    with (at, 0x4021ac4) => (11, 0xffffffff7fffffff) ∷
    row 1133 0x7d1f082a with (1, 0xffffffff04a9456c) with (31, 0xffffffff) with (m1, 0x80000000)
    => (8, 0x80000000) ∷
    row 1134 0x7f18a82a with (21, 0x43362c1) with (24, 0) with (m1, 0xffffffffffffffff)
    => (24, 0xffffffffffffffff) ∷
    row 1135 0x7ed4b02a with (20, 0x8000000000000000) with (22, 0x8000000404a072ce)
    with (m1, 0xffffffff80000000) => (22, 0xffffffff80000000) ∷
    row 1136 0x7ee7202a with (4, 0x3849b203f) with (7, 0x7fffffff) with (m1, 0x7fffffff)
    => (23, 0x7fffffff) ∷
    row 1137 0x7cd6102a with (2, 0x28478c066) with (22, 0xffffffff80000000)
    with (m1, 0x8000000000000000) => (6, 0x8000000000000000) ∷
    row 1138 0x7f00a82a with (0, 0xffffffffffffffff) with (21, 0x2048ea89b) with (m1, 0) => (24, 0)
    ∷
    row 1139 0x7ec6202a with (4, 0x184dcd8dd) with (6, 0x80000000) with (m1, 0xffffffff)
    => (22, 0xffffffff) ∷
    row 1140 0x7f71882a with (17, 0x2025c5340) with (m1, 0x7fffffffffffffff) with (at, 0x404b8a678)
    => (27, 0x7fffffffffffffff) ∷
    row 1141 0x7f42902a with (18, 0xfa64377882fc26ec) => (26, 0xaa5afbc447c49adf) ∷
    row 1142 0x7c63c82a with (25, 0xf01830478dfa5bce) => (3, 0x6bed1db4c65f67e2) ∷
    row 1143 0x7e24282a with (5, 0x2baeb34377af2893) => (17, 0x5e76a43220a30d0c) ∷
    row 1144 0x7f7bd82a with (27, 0x202ac20) with (at, 0x4055838) => (27, 0x32a38b10568f8a5e) ∷
    row 1145 0x7ddf202a with (4, 0xdd8d41441bcb750d) => (14, 0x318d827b6824dfd6) ∷
    row 1146 0x7fc0602a with (12, 0x2047d616f) => (30, 0x18552e4755630d76) ∷
    row 1147 0x7daab82a with (23, 0xb90da9a49a432cfe) => (13, 0xc9f8d18a1e4a133e) ∷
    row 1148 0x7f36b02a with (22, 0x800000000215f013) with (at, 0x42be01e)
    => (25, 0x1d020759c2d9f12d) ∷
    row 1149 0x7e96982a with (19, 0x2d4372e0065d2786) => (20, 0xe1406f8a4312a742) ∷
    row 1150 0x7fff682a with (13, 0xe1ad75c51c8f619d) => (31, 0x40aa16479ef43580) ∷
    row 1151 0x7c41e82a with (29, 0x86d3f48770c023c8) => (2, 0x17834365d67e9be4) ∷
    row 1152 0x7e4be02a with (28, 0xc5d6cba3d2e1ea13) => (18, 0xb93867fae9b1da70) ∷
    row 1153 0x7c0f902a with (18, 0x933bf692c0c03887) => (0, 0x6cc14d1cd88df123) ∷
    row 1154 0x7c20b82a with (23, 0x4047e1d88) => (1, 0x2111369fa312dffd) ∷
    row 1155 0x7f47f02a with (30, 0x98f5a1f68db9d867) => (26, 0xe0fa8caf4940a6ff) ∷
    row 1156 0x7f3ad02a with (26, 0x2022de3de) => (25, 0xa7e53b1fcb174628) ∷
    row 1157 0x7cab002a with (0, 0xf8e6c5a93910177e) => (5, 0x742f021d2896bd78) ∷
    row 1158 0x7f18f02a with (30, 0xb29dab024a6053d3) => (24, 0x4db4757b61bf0cef) ∷
    row 1159 0x7f22c02a with (24, 0xcfdc476a441eb2f8) => (25, 0xf215e0507690348e) ∷
    row 1160 0x7e10802a with (16, 0x80000001023293b6) => (16, 0x127ee5b2670a3454) ∷
    []) ∷
    -- stdx
    group 0x0 (
    row 1161 0x7ca3212a with (3, 0) with (4, 0x2048988ce) with (5, 0) => (m1, 0) ∷
    row 1162 0x7c60f12a with (0, 0x8000000000000000) with (3, 1) with (30, 0x20490dce8) => (m1, 1) ∷
    row 1163 0x7d09f92a with (8, 0xffffffffffffffff) with (9, 0x7fffffff) with (31, 0x3847b23ba)
    => (m1, 0xffffffffffffffff) ∷
    row 1164 0x7c31892a with (1, 0x8000000000000000) with (17, 0x1024ed94c)
    => (m1, 0x8000000000000000) ∷
    row 1165 0x7c18392a with (0, 0x7fffffffffffffff) with (7, 0x404a3342f)
    with (24, 0xffffffffffffffff) => (m1, 0x7fffffffffffffff) ∷
    row 1166 0x7e52f12a with (18, 0x80000000) with (30, 0x3848ba87c) => (m1, 0x80000000) ∷
    row 1167 0x7e22a12a with (2, 0xffffffff7fffffff) with (17, 0x7fffffff) with (20, 0x28401ba2e)
    => (m1, 0x7fffffff) ∷
    row 1168 0x7f39c92a with (25, 0x80000000025809f5) with (at, 0x4b013e2)
    => (m1, 0x80000000025809f5) ∷
    row 1169 0x7d46a12a with (6, 0x7fffffffffffffff) with (10, 0xffffffff7fffffff)
    with (20, 0x800000040496b5b6) => (m1, 0xffffffff7fffffff) ∷
    row 1170 0x7da0b92a with (0, 0xffffffff) with (13, 0xffffffff80000000) with (23, 0x204b59f8d)
    => (m1, 0xffffffff80000000) ∷
    row 1171 0x7c58592a with (2, 1) with (11, 0x2040cd171) with (24, 1) => (m1, 1) ∷
    row 1172 0x7fa1092a with (1, 0x2237b07) with (29, 0xffffffffffffffff) with (at, 0x446f606)
    => (m1, 0xffffffffffffffff) ∷
    row 1173 0x7fbcf12a with (28, 0xffffffff) with (29, 0x8000000000000000) with (30, 0x104640d64)
    => (m1, 0x8000000000000000) ∷
    row 1174 0x7ca5692a with (5, 0) with (13, 0x4b96cc5) => (m1, 0) ∷
    row 1175 0x7e41a12a with (1, 0x8000000000000000) with (18, 0x80000000)
    with (20, 0x80000004049c6988) => (m1, 0x80000000) ∷
    row 1176 0x7e25792a with (5, 0x7fffffff) with (15, 0x384b7ae5a) with (17, 0x7fffffff)
    => (m1, 0x7fffffff) ∷
    row 1177 0x7f5af12a with (26, 0xffffffff80000000) with (30, 0x840b3b38)
    => (m1, 0xffffffff80000000) ∷
    row 1178 0x7dc0412a with (0, 0xffffffffffffffff) with (8, 0x4971023)
    with (14, 0xffffffff7fffffff) => (m1, 0xffffffff7fffffff) ∷
    row 1179 0x7c98d92a with (4, 0xffffffff80000000) with (24, 0x80000000) with (27, 0x384b08270)
    => (m1, 0xffffffff80000000) ∷
    row 1180 0x7e9de92a with (20, 0) with (29, 0x8000000102011e65) with (at, 0x204023cc2) => (m1, 0)
    ∷
    row 1181 0x7fa3492a with (9, 0xc28dcbff1352eaaa) => (m1, 0x86d230b189805d7f) ∷
    row 1182 0x7c84592a with (11, 0xeb2a5e2a6ac05fd8) => (m1, 0x14d5a1d799e37f25) ∷
    row 1183 0x7e08d12a with (26, 0x4e9638cdb4784a49) => (m1, 0xee5e196725427d73) ∷
    row 1184 0x7ce7392a with (7, 0x23dfb5c) with (at, 0x47bf6b0) => (m1, 0x23dfb5c) ∷
    row 1185 0x7cfc992a with (19, 0xd2f83973c666c8d7) => (m1, 0xa31b780a58ec1ffb) ∷
    row 1186 0x7e20492a with (9, 0x4352ea9) => (m1, 0x387514444773ece1) ∷
    row 1187 0x7f19b92a with (23, 0xe8e1c7cb7ca45e0d) => (m1, 0x6de907878cb74616) ∷
    row 1188 0x7f06312a with (6, 0x80000001023d18bc) => (m1, 0xa63d59229f05c485) ∷
    row 1189 0x7ff8692a with (13, 0x420de3dd777403d9) => (m1, 0x4b977b4195fb316) ∷
    row 1190 0x7e52092a with (1, 0x87c8697ac0f45466) => (m1, 0x7837968943ac0015) ∷
    row 1191 0x7f81812a with (16, 0x907d74da0935dd61) => (m1, 0x80300b863e9a3ce) ∷
    row 1192 0x7ccbb92a with (23, 0xed17a3a06233f882) => (m1, 0x1e6c3eff73453f57) ∷
    row 1193 0x7e54112a with (2, 0x29c0432ad2d4f305) => (m1, 0x8b163e026b0fbe05) ∷
    row 1194 0x7c00912a with (18, 0x4048ffb1f) => (m1, 0x178203b9ffdb54b4) ∷
    row 1195 0x7ce0812a with (16, 0x4042dee3e) => (m1, 0x9323ae47959c0c96) ∷
    row 1196 0x7e55a92a with (21, 0x8000000202576a0a) with (at, 0x404aed40c)
    => (m1, 0xad019ca94b631556) ∷
    row 1197 0x7df5412a with (8, 0xcb32cd5f6b0d26b) => (m1, 0x62788b2aa0c24ee0) ∷
    row 1198 0x7eb5492a with (9, 0x9ccd369cb44e52ee) => (m1, 0x6332c9654fb5cfa7) ∷
    row 1199 0x7f1b892a with (17, 0xf1b61bbf4b8394c8) => (m1, 0x1ed7ab1109eced62) ∷
    row 1200 0x7ffff92a with (31, 0x21d48a4) with (at, 0x43a9140) => (m1, 0x21d48a4) ∷
    []) ∷
    -- lwax
    group 0x0 (
    row 1201 0x7dbfbaaa with (23, 0x4042a34b6) with (31, 0) with (m1, 0) => (13, 0) ∷
    row 1202 0x7c20b2aa with (0, 0x8000000000000000) with (22, 0x4fccadc) with (m1, 0xffffffff)
    => (1, 0xffffffffffffffff) ∷
    row 1203 0x7c1692aa with (18, 0x184b253ba) with (22, 0x7fffffff) with (m1, 0x7fffffffffffffff)
    => (0, 0xffffffffffffffff) ∷
    row 1204 0x7f7ffaaa with (31, 0x22567a7) with (m1, 1) => (27, 1) ∷
    row 1205 0x7ce53aaa with (5, 0xffffffffffffffff) with (7, 0x41b92f1)
    with (m1, 0xffffffff7fffffff) => (7, 0x7fffffff) ∷
    row 1206 0x7c00aaaa with (0, 0x80000000) with (21, 0x20479f3f4) with (m1, 0x80000000)
    => (0, 0xffffffff80000000) ∷
    row 1207 0x7f326aaa with (13, 0x484bb47b1) with (18, 0xffffffff7fffffff)
    with (m1, 0xffffffffffffffff) => (25, 0xffffffffffffffff) ∷
    row 1208 0x7e94a2aa with (20, 0x80000001026fc712) with (m1, 0xffffffff80000000)
    => (20, 0xffffffff80000000) ∷
    row 1209 0x7d18eaaa with (24, 0x7fffffffffffffff) with (29, 0x8000000004e6c751)
    with (m1, 0x7fffffff) => (8, 0x7fffffff) ∷
    row 1210 0x7f2042aa with (0, 0xffffffff) with (8, 0x2047b9dde) with (m1, 0x8000000000000000)
    => (25, 0) ∷
    row 1211 0x7e01d2aa with (1, 1) with (26, 0x20448bc78) with (m1, 1) => (16, 1) ∷
    row 1212 0x7cbef2aa with (30, 0x202271190) with (m1, 0xffffffff7fffffff) with (at, 0x4044e2318)
    => (5, 0x7fffffff) ∷
    row 1213 0x7fc9b2aa with (9, 0xffffffff) with (22, 0x104e1272d) with (m1, 0x80000000)
    => (30, 0xffffffff80000000) ∷
    row 1214 0x7ce702aa with (0, 0x404571dee) with (7, 0) with (m1, 0xffffffffffffffff)
    => (7, 0xffffffffffffffff) ∷
    row 1215 0x7c5b6aaa with (13, 0x8000000004b00769) with (27, 0x8000000000000000)
    with (m1, 0xffffffff80000000) => (2, 0xffffffff80000000) ∷
    row 1216 0x7ea41aaa with (3, 0xffffffff84ebe39c) with (4, 0x7fffffff) with (m1, 0x7fffffff)
    => (21, 0x7fffffff) ∷
    row 1217 0x7fecfaaa with (12, 0xffffffff80000000) with (31, 0x284b55d2f)
    with (m1, 0x8000000000000000) => (31, 0) ∷
    row 1218 0x7e20caaa with (0, 0xffffffffffffffff) with (25, 0x404b71ed0) with (m1, 0) => (17, 0)
    ∷
    row 1219 0x7d75aaaa with (21, 0x24de995) with (m1, 0xffffffff) => (11, 0xffffffffffffffff) ∷
    row 1220 0x7cab5aaa with (11, 0x800000000231bd1d) with (m1, 0x7fffffffffffffff)
    with (at, 0x4637a32) => (5, 0xffffffffffffffff) ∷
    row 1221 0x7ec532aa with (6, 0x97cdc47e581b957a) => (22, 0x4450d093) ∷
    row 1222 0x7e310aaa with (1, 0x5071cbdc7c3d4073) => (17, 0x67af29db) ∷
    row 1223 0x7dfe0aaa with (1, 0x2ddea83905e5077a) => (15, 0x66b65b4b) ∷
    row 1224 0x7c4212aa with (2, 0x25a7381) => (2, 0x416664e3) ∷
    row 1225 0x7c688aaa with (17, 0xad71a741419261d) => (3, 0xfffffffff7bf46a1) ∷
    row 1226 0x7ec092aa with (18, 0x404a309) => (22, 0xffffffff89c10087) ∷
    row 1227 0x7d2ecaaa with (25, 0x661bf9701300fda0) => (9, 0xfffffffff76b9294) ∷
    row 1228 0x7d79caaa with (25, 0x2456a4d) => (11, 0x40befcc9) ∷
    row 1229 0x7f1df2aa with (30, 0x80cb4562dc216672) => (24, 0x65bb3f24) ∷
    row 1230 0x7c4242aa with (8, 0xe7d7edbcf5a0a29f) => (2, 0x666059a7) ∷
    row 1231 0x7d9df2aa with (30, 0x9a13e10d240d434f) => (12, 0x42ae4c51) ∷
    row 1232 0x7e5cb2aa with (22, 0x4737d5f53cb25e1f) => (18, 0xfffffffffaa51723) ∷
    row 1233 0x7c8112aa with (2, 0xbb690c269b0829bf) => (4, 0xffffffff8e44ba1b) ∷
    row 1234 0x7da082aa with (16, 0x204642a87) => (13, 0xfffffffffd8d353b) ∷
    row 1235 0x7d049aaa with (19, 0x69044a78c4c7baa6) => (8, 0x487e8883) ∷
    row 1236 0x7d6842aa with (8, 0x800000000262191f) with (at, 0x4c43236) => (11, 0x6f18b3f1) ∷
    row 1237 0x7fbcfaaa with (31, 0x832e8d4f3bafd88) => (29, 0x715bb787) ∷
    row 1238 0x7c4242aa with (8, 0x6c69c51ce8e9de82) => (2, 0x4f479344) ∷
    row 1239 0x7d0702aa with (0, 0xd93c9f4ed4ef4873) => (8, 0x8dc4728) ∷
    row 1240 0x7f9ce2aa with (28, 0x80000000023e7bd0) with (at, 0x47cf798)
    => (28, 0xffffffff9e19d334) ∷
    []) ∷
    -- bl
    group 0x0 (
    row 1241 0x48000001 => (64, 0x201467bec) => (pc, 0x201467be8) ∷
    row 1242 0x4bfffffd => (64, 0x1468e3c) => (pc, 0x1468e34) ∷
    row 1243 0x48000005 => (64, 0x20146db68) ∷
    row 1244 0x4a000001 => (64, 0x201470b74) => (pc, 0x1ff470b70) ∷
    row 1245 0x49fffffd => (64, 0x147690c) => (pc, 0x3476904) ∷
    row 1246 0x4bfffffd => (64, 0x20147b6d4) => (pc, 0x20147b6cc) ∷
    row 1247 0x48000005 => (64, 0x20147ecd4) ∷
    row 1248 0x4a000001 => (64, 0x20148205c) => (pc, 0x1ff482058) ∷
    row 1249 0x49fffffd => (64, 0x2014856c4) => (pc, 0x2034856bc) ∷
    row 1250 0x48000001 => (64, 0x148b80c) => (pc, 0x148b808) ∷
    row 1251 0x48000005 => (64, 0x20148d430) ∷
    row 1252 0x4a000001 => (64, 0x401490888) => (pc, 0x3ff490884) ∷
    row 1253 0x49fffffd => (64, 0x401497a6c) => (pc, 0x403497a64) ∷
    row 1254 0x48000001 => (64, 0x401498c84) => (pc, 0x401498c80) ∷
    row 1255 0x4bfffffd => (64, 0x149e428) => (pc, 0x149e420) ∷
    row 1256 0x4a000001 => (64, 0x2014a06a8) => (pc, 0x1ff4a06a4) ∷
    row 1257 0x49fffffd => (64, 0x14a76b4) => (pc, 0x34a76ac) ∷
    row 1258 0x48000001 => (64, 0x4014ab6f0) => (pc, 0x4014ab6ec) ∷
    row 1259 0x4bfffffd => (64, 0x2014ac764) => (pc, 0x2014ac75c) ∷
    row 1260 0x48000005 => (64, 0x4014b2560) ∷
    row 1261 0x49d5360d => (64, 0x14b4b94) => (pc, 0x320819c) ∷
    row 1262 0x4866de45 => (64, 0x2014b89f8) => (pc, 0x201b26838) ∷
    row 1263 0x49d88ee9 => (64, 0x14bd094) => (pc, 0x3245f78) ∷
    row 1264 0x4acdfb25 => (64, 0x4014c1cb4) => (pc, 0x4001a17d4) ∷
    row 1265 0x489c577d => (64, 0x4014c490c) => (pc, 0x401e8a084) ∷
    row 1266 0x4b4716c9 => (64, 0x14ca59c) => (pc, 0x93bc60) ∷
    row 1267 0x4af7d95d => (64, 0x2014cefb0) => (pc, 0x20044c908) ∷
    row 1268 0x4ad9c201 => (64, 0x4014d24a4) => (pc, 0x40026e6a0) ∷
    row 1269 0x48ac28fd => (64, 0x2014d4f24) => (pc, 0x201f9781c) ∷
    row 1270 0x4baf9139 => (64, 0x14db9d8) => (pc, 0xfd4b0c) ∷
    row 1271 0x4a04e9b1 => (64, 0x2014de214) => (pc, 0x1ff52cbc0) ∷
    row 1272 0x4854218d => (64, 0x4014e3284) => (pc, 0x401a2540c) ∷
    row 1273 0x4bea2ab1 => (64, 0x4014e65d4) => (pc, 0x401389080) ∷
    row 1274 0x49075c6d => (64, 0x4014e9c04) => (pc, 0x40255f86c) ∷
    row 1275 0x4a894f01 => (64, 0x14ed514) => (pc, 0xffffffffffd82410) ∷
    row 1276 0x4966ee8d => (64, 0x14f33ac) => (pc, 0x2b62234) ∷
    row 1277 0x49913975 => (64, 0x2014f5278) => (pc, 0x202e08be8) ∷
    row 1278 0x4ba5ebb9 => (64, 0x2014f8978) => (pc, 0x200f5752c) ∷
    row 1279 0x48d57779 => (64, 0x14fc604) => (pc, 0x2253d78) ∷
    row 1280 0x4a65d661 => (64, 0x201500d6c) => (pc, 0x1ffb5e3c8) ∷
    []) ∷
    -- nop
    group 0x0 (
    row 1281 0x60000000 ∷
    row 1282 0x60000000 ∷
    row 1283 0x60000000 ∷
    row 1284 0x60000000 ∷
    []) ∷
    -- paddi
    group 0x0 (
    row 1285 0x3a80000006100000 => (20, 0x201515034) ∷
    row 1286 0x39a0ffff0613ffff => (13, 0x151b0d7) ∷
    row 1287 0x3a00000106100000 => (16, 0x40151d459) ∷
    row 1288 0x3b00000006120000 => (24, 0xfffffffe01521568) ∷
    row 1289 0x3be0ffff0611ffff => (31, 0x201525ea7) ∷
    row 1290 0x3800ffff06100000 => (0, 0x40153ad6f) ∷
    row 1291 0x3ae0000006100001 => (23, 0x20153dc70) ∷
    row 1292 0x3b40800006100000 => (26, 0x40153b64c) ∷
    row 1293 0x3ac000000613ffff => (22, 0x1524b0c) ∷
    row 1294 0x3ba0ffff0613ffff => (29, 0x40153b54f) ∷
    row 1295 0x3820000106100000 => (1, 0x20153e7cd) ∷
    row 1296 0x3a00000006120000 => (16, 0x201541d24) ∷
    row 1297 0x3a20ffff0611ffff => (17, 0x401547ab3) ∷
    row 1298 0x3a40ffff06100000 => (18, 0x1559077) ∷
    row 1299 0x3b60000006100001 => (27, 0x40155c66c) ∷
    row 1300 0x3b80800006100000 => (28, 0x20155b744) ∷
    row 1301 0x39a000000613ffff => (13, 0x4015472f8) ∷
    row 1302 0x3ae0000006100000 => (23, 0x201559c38) ∷
    row 1303 0x3860000106100000 => (3, 0x155f5ad) ∷
    row 1304 0x39c0000006120000 with (pc, 0x4015629f8) => (14, 0x2015629f8) ∷
    row 1305 0x38c0c67506138d62 => (6, 0x38eb92fa1) ∷
    row 1306 0x38802be906121eac => (4, 0xfffffffe2002df29) ∷
    row 1307 0x3a6092110612b5bf => (19, 0xb71664e9) ∷
    row 1308 0x3a4054dd0610f37d => (18, 0xf4d48785) ∷
    row 1309 0x3b20f04406137a9a => (25, 0x37bf25aec) ∷
    row 1310 0x3b80a9360612ded8 => (28, 0x2e030596a) ∷
    row 1311 0x39c0875106104e1e => (14, 0x24f767ff1) ∷
    row 1312 0x3bc0872606112dde => (30, 0x12f36ab12) ∷
    row 1313 0x3a40ef6106103359 => (18, 0x34b23421) ∷
    row 1314 0x39e0b8ba061174b9 => (15, 0x176124682) ∷
    row 1315 0x3ba0269006106276 => (29, 0x63cf0040) ∷
    row 1316 0x3ae0385e0610d7d0 => (23, 0xd9295e2a) ∷
    row 1317 0x39400ba10611be2b => (10, 0x3bf846311) ∷
    row 1318 0x3a204e4206116027 => (17, 0x16180fce2) ∷
    row 1319 0x3ae0d7a80613cdd3 => (23, 0xffffffffcf2d9dac) ∷
    row 1320 0x39800db60611e393 => (12, 0x3e4ed40a6) ∷
    row 1321 0x3a60cd930613f2e7 => (19, 0x3f44235a3) ∷
    row 1322 0x3b8096b40610135c with (pc, 0x4015a9ab8) => (28, 0x414b7316c) ∷
    row 1323 0x3880142d06122cfc => (4, 0x22e570f1d) ∷
    row 1324 0x3860fda3061064b3 => (3, 0x2660f1653) ∷
    []) ∷
    -- pld
    group 0x0 (
    row 1325 0xe760002004100000 with (m1, 0) with (pc, 0x2015b4bf8) with (at, 0x2015b4c10)
    => (27, 0) ∷
    row 1326 0xe540ffff041202cc with (m1, 0xffffffff) with (pc, 0x2015b8774) with (at, 0x428876b)
    => (10, 0xffffffff) ∷
    row 1327 0xe7a0000104120370 with (m1, 0x7fffffffffffffff) with (pc, 0x2015bc5d0)
    with (at, 0x4cbc5c9) => (29, 0x7fffffffffffffff) ∷
    row 1328 0xe580000004120000 with (m1, 1) with (pc, 0x2015c2460) with (at, 0x15c2458) => (12, 1)
    ∷
    row 1329 0xe480ffff0411ffff with (m1, 0xffffffff7fffffff) with (pc, 0x2015c4878)
    with (at, 0x4015c486f) => (4, 0xffffffff7fffffff) ∷
    row 1330 0xe4c0ffff04120354 with (m1, 0x80000000) with (at, 0x4b1b76b) => (6, 0x80000000) ∷
    row 1331 0xe4c0000004120383 with (m1, 0xffffffffffffffff) with (pc, 0x2015cf3f8)
    with (at, 0x4dff3f0) => (6, 0xffffffffffffffff) ∷
    row 1332 0xe740800004120394 with (m1, 0xffffffff80000000) with (at, 0x4f1bb50)
    => (26, 0xffffffff80000000) ∷
    row 1333 0xe680ff800413ffff with (m1, 0x7fffffff) with (pc, 0x2015d62f0) with (at, 0x2015d6268)
    => (20, 0x7fffffff) ∷
    row 1334 0xe5c0ffff04120360 with (m1, 0x8000000000000000) with (at, 0x4be8d5b)
    => (14, 0x8000000000000000) ∷
    row 1335 0xe760000104120371 with (m1, 1) with (pc, 0x2015dc80c) with (at, 0x4cec805) => (27, 1)
    ∷
    row 1336 0xe500000004120000 with (m1, 0xffffffff7fffffff) with (pc, 0x2015e0aec)
    with (at, 0x15e0ae4) => (8, 0xffffffff7fffffff) ∷
    row 1337 0xe500ffff0411ffff with (m1, 0x80000000) with (pc, 0x2015e55f8) with (at, 0x4015e55ef)
    => (8, 0x80000000) ∷
    row 1338 0xe580ffff041202f1 with (m1, 0xffffffffffffffff) with (pc, 0x2015ebbec)
    with (at, 0x450bbe3) => (12, 0xffffffffffffffff) ∷
    row 1339 0xe6400000041002e3 with (m1, 0xffffffff80000000) with (pc, 0x2015eda14)
    with (at, 0x20441da0c) => (18, 0xffffffff80000000) ∷
    row 1340 0xe7e080000410030b with (m1, 0x7fffffff) with (pc, 0x2015f25c4) with (at, 0x2046aa5bc)
    => (31, 0x7fffffff) ∷
    row 1341 0xe6c0ffd80413ffff with (m1, 0x8000000000000000) with (at, 0x2015f7420)
    => (22, 0x8000000000000000) ∷
    row 1342 0xe4a000000412035c with (m1, 0) with (pc, 0x2015f85b8) with (at, 0x4bb85b0) => (5, 0) ∷
    row 1343 0xe40000010412032e with (m1, 0xffffffff) with (pc, 0x2015ff208) with (at, 0x48df201)
    => (0, 0xffffffff) ∷
    row 1344 0xe460000004120000 with (m1, 0x7fffffffffffffff) with (at, 0x16013d8)
    => (3, 0x7fffffffffffffff) ∷
    row 1345 0xe600008004100000 with (pc, 0x2016065e8) with (at, 0x201606660)
    => (16, 0xbc7c305fd9bb11a9) ∷
    row 1346 0xe4409c3c0412034b with (at, 0x4ac345c) => (2, 0x8786881d62e21df7) ∷
    row 1347 0xe4c083ac041202a9 with (pc, 0x20160cff0) with (at, 0x40a5394)
    => (6, 0x2c548e3bc7b2026d) ∷
    row 1348 0xe4a09654041202ea with (pc, 0x201610544) with (at, 0x44b9b90)
    => (5, 0x9bfe8bd1082abf0a) ∷
    row 1349 0xe6a0002004100000 with (pc, 0x2016162c8) with (at, 0x2016162e0)
    => (21, 0xbb2821f3244c53ce) ∷
    row 1350 0xe760766a04120314 with (pc, 0x20161bb30) with (at, 0x4763192)
    => (27, 0x3d6ce4761c16c0b9) ∷
    row 1351 0xe440d382041202fd with (pc, 0x20161f11c) with (at, 0x45fc496)
    => (2, 0x68f6eb85ef8a05cc) ∷
    row 1352 0xe5a069e8041202ca with (pc, 0x201622f40) with (at, 0x42c9920)
    => (13, 0xfdd672f69ea62306) ∷
    row 1353 0xe620ffd80413ffff with (at, 0x201627014) => (17, 0x35c0eaf4296b1867) ∷
    row 1354 0xe7a0cf4b04120361 with (pc, 0x201629424) with (at, 0x4c46367)
    => (29, 0xdd3b37528fd8e5f0) ∷
    row 1355 0xe7209d8d041202d7 with (pc, 0x20162f2e8) with (at, 0x43a906d)
    => (25, 0x4f917b27d1ef8ba0) ∷
    row 1356 0xe6403e1f0412032f with (at, 0x4926547) => (18, 0xdb9b3189efaf0977) ∷
    row 1357 0xe4e0ffd80413ffff with (pc, 0x201636bb0) with (at, 0x201636b80)
    => (7, 0x608c3a4ce9175f75) ∷
    row 1358 0xe700dec504120333 with (pc, 0x20163b060) with (at, 0x4978f1d)
    => (24, 0xf8f6619cbe288d9b) ∷
    row 1359 0xe440258404120335 with (pc, 0x20163daa0) with (at, 0x499001c)
    => (2, 0x90822f4d6ee293e8) ∷
    row 1360 0xe7e0627504120319 with (pc, 0x2016407b8) with (at, 0x47d6a25)
    => (31, 0x354cc78afb45725c) ∷
    row 1361 0xe4c0008004100000 with (pc, 0x2016477b4) with (at, 0x20164782c)
    => (6, 0xdf735a29635128f7) ∷
    row 1362 0xe480b94b0412038a with (pc, 0x201648a90) with (at, 0x4ef43d3)
    => (4, 0x5475e43ea705b7ba) ∷
    row 1363 0xe6200b9804100317 with (pc, 0x20164d2f4) with (at, 0x2047bde84)
    => (17, 0x4d5fbae0c6631ea4) ∷
    row 1364 0xe600058404100387 with (pc, 0x201653634) with (at, 0x204ec3bb0)
    => (16, 0xd4fd09e3c1695db5) ∷
    []) ∷
    -- mflr
    group 0x0 (
    row 1365 0x7cc802a6 with (64, 0) => (6, 0) ∷
    row 1366 0x7c2802a6 with (64, 0x8000000000000000) => (1, 0x8000000000000000) ∷
    row 1367 0x7f4802a6 with (64, 0x7fffffff) => (26, 0x7fffffff) ∷
    row 1368 0x7ea802a6 with (64, 0xffffffff80000000) => (21, 0xffffffff80000000) ∷
    row 1369 0x7d6802a6 with (64, 0xffffffffffffffff) => (11, 0xffffffffffffffff) ∷
    row 1370 0x7ca802a6 with (64, 0x80000000) => (5, 0x80000000) ∷
    row 1371 0x7c0802a6 with (64, 0xffffffff7fffffff) => (0, 0xffffffff7fffffff) ∷
    row 1372 0x7fc802a6 with (64, 1) => (30, 1) ∷
    row 1373 0x7d8802a6 with (64, 0x7fffffffffffffff) => (12, 0x7fffffffffffffff) ∷
    row 1374 0x7ce802a6 with (64, 0xffffffff) => (7, 0xffffffff) ∷
    row 1375 0x7c0802a6 with (64, 1) => (0, 1) ∷
    row 1376 0x7d2802a6 with (64, 0x7fffffffffffffff) => (9, 0x7fffffffffffffff) ∷
    row 1377 0x7d0802a6 with (64, 0xffffffff) => (8, 0xffffffff) ∷
    row 1378 0x7e6802a6 with (64, 0) => (19, 0) ∷
    row 1379 0x7da802a6 with (64, 0x8000000000000000) => (13, 0x8000000000000000) ∷
    row 1380 0x7d4802a6 with (64, 0x7fffffff) => (10, 0x7fffffff) ∷
    row 1381 0x7d4802a6 with (64, 0xffffffff80000000) => (10, 0xffffffff80000000) ∷
    row 1382 0x7d6802a6 with (64, 0xffffffffffffffff) => (11, 0xffffffffffffffff) ∷
    row 1383 0x7e0802a6 with (64, 0x80000000) => (16, 0x80000000) ∷
    row 1384 0x7ec802a6 with (64, 0xffffffff7fffffff) => (22, 0xffffffff7fffffff) ∷
    row 1385 0x7ea802a6 => (21, 0xf137b45b1a7188fd) ∷
    row 1386 0x7d6802a6 => (11, 0x6bfbad7ea3a99791) ∷
    row 1387 0x7c0802a6 => (0, 0x6b2b2299088a7e4d) ∷
    row 1388 0x7e0802a6 => (16, 0x35368f2a49143d2f) ∷
    row 1389 0x7ce802a6 => (7, 0x419c6b26546d439) ∷
    row 1390 0x7fa802a6 => (29, 0xe0bff8315d22436b) ∷
    row 1391 0x7d4802a6 => (10, 0xbc03a0a730a68ac3) ∷
    row 1392 0x7d0802a6 => (8, 0xab449713dfd3aa43) ∷
    row 1393 0x7cc802a6 => (6, 0x92e8b0776aa9a1ea) ∷
    row 1394 0x7dc802a6 => (14, 0x94c46bd1d12871b8) ∷
    row 1395 0x7da802a6 => (13, 0x617c1ea3135019ae) ∷
    row 1396 0x7e8802a6 => (20, 0x9d3f766b312099cb) ∷
    row 1397 0x7fe802a6 => (31, 0x7c91ee2a2a99f20f) ∷
    row 1398 0x7da802a6 => (13, 0xc4b5b6dfffbc227a) ∷
    row 1399 0x7f2802a6 => (25, 0xb6a2f38cb0872b0d) ∷
    row 1400 0x7ea802a6 => (21, 0x736c27b03cfb0bc7) ∷
    row 1401 0x7f8802a6 => (28, 0xfaf2ecaa517c4a8) ∷
    row 1402 0x7e6802a6 => (19, 0xdf1327dbe8dd55b1) ∷
    row 1403 0x7c8802a6 => (4, 0x87b69fe4084bbee1) ∷
    row 1404 0x7f6802a6 => (27, 0x69b55de303630038) ∷
    []) ∷
    -- mtlr
    group 0x0 (
    row 1405 0x7fe803a6 with (31, 0) => (64, 0) ∷
    row 1406 0x7fe803a6 with (31, 0x8000000000000000) => (64, 0x8000000000000000) ∷
    row 1407 0x7f4803a6 with (26, 0x7fffffff) => (64, 0x7fffffff) ∷
    row 1408 0x7c4803a6 with (2, 0xffffffff80000000) => (64, 0xffffffff80000000) ∷
    row 1409 0x7dc803a6 with (14, 0xffffffffffffffff) => (64, 0xffffffffffffffff) ∷
    row 1410 0x7c6803a6 with (3, 0x80000000) => (64, 0x80000000) ∷
    row 1411 0x7e0803a6 with (16, 0xffffffff7fffffff) => (64, 0xffffffff7fffffff) ∷
    row 1412 0x7c4803a6 with (2, 1) => (64, 1) ∷
    row 1413 0x7d6803a6 with (11, 0x7fffffffffffffff) => (64, 0x7fffffffffffffff) ∷
    row 1414 0x7ee803a6 with (23, 0xffffffff) => (64, 0xffffffff) ∷
    row 1415 0x7e4803a6 with (18, 1) => (64, 1) ∷
    row 1416 0x7d0803a6 with (8, 0x7fffffffffffffff) => (64, 0x7fffffffffffffff) ∷
    row 1417 0x7ce803a6 with (7, 0xffffffff) => (64, 0xffffffff) ∷
    row 1418 0x7dc803a6 with (14, 0) => (64, 0) ∷
    row 1419 0x7ce803a6 with (7, 0x8000000000000000) => (64, 0x8000000000000000) ∷
    row 1420 0x7de803a6 with (15, 0x7fffffff) => (64, 0x7fffffff) ∷
    row 1421 0x7ec803a6 with (22, 0xffffffff80000000) => (64, 0xffffffff80000000) ∷
    row 1422 0x7e8803a6 with (20, 0xffffffffffffffff) => (64, 0xffffffffffffffff) ∷
    row 1423 0x7c4803a6 with (2, 0x80000000) => (64, 0x80000000) ∷
    row 1424 0x7c0803a6 with (0, 0xffffffff7fffffff) => (64, 0xffffffff7fffffff) ∷
    row 1425 0x7ca803a6 => (64, 0xb64f1258c1f2561f) ∷
    row 1426 0x7de803a6 => (64, 0x9968c69927133765) ∷
    row 1427 0x7e4803a6 => (64, 0xec75542f271092b2) ∷
    row 1428 0x7cc803a6 => (64, 0xa5137e821c322d23) ∷
    row 1429 0x7de803a6 => (64, 0xdcd7b2649fb3d257) ∷
    row 1430 0x7ce803a6 => (64, 0x5fd0023ca100f8e7) ∷
    row 1431 0x7d0803a6 => (64, 0xe5bd2618c5d6adf7) ∷
    row 1432 0x7f8803a6 => (64, 0xabe6d8204e6ffeb) ∷
    row 1433 0x7c8803a6 => (64, 0x6be3ea28230e532f) ∷
    row 1434 0x7ee803a6 => (64, 0x63c63ad929567a47) ∷
    row 1435 0x7d0803a6 => (64, 0xd054a5b5f1d3984b) ∷
    row 1436 0x7cc803a6 => (64, 0xe17b6fda292ab30e) ∷
    row 1437 0x7dc803a6 => (64, 0xde15985b547c5fe3) ∷
    row 1438 0x7c6803a6 => (64, 0xe166544eb2a16624) ∷
    row 1439 0x7fe803a6 => (64, 0x4a87175428d1ebcf) ∷
    row 1440 0x7f2803a6 => (64, 0x250d35ccd9d428d3) ∷
    row 1441 0x7f0803a6 => (64, 0xa55751578f8a808c) ∷
    row 1442 0x7f2803a6 => (64, 0xb964ae96f38c8d27) ∷
    row 1443 0x7d8803a6 => (64, 0x3be3db7b04ab3047) ∷
    row 1444 0x7ea803a6 => (64, 0xc9f55aad511fd474) ∷
    []) ∷
    -- mtctr
    group 0x0 (
    row 1445 0x7d4903a6 with (10, 0) => (65, 0) ∷
    row 1446 0x7c6903a6 with (3, 0x8000000000000000) => (65, 0x8000000000000000) ∷
    row 1447 0x7d0903a6 with (8, 0x7fffffff) => (65, 0x7fffffff) ∷
    row 1448 0x7c4903a6 with (2, 0xffffffff80000000) => (65, 0xffffffff80000000) ∷
    row 1449 0x7e2903a6 with (17, 0xffffffffffffffff) => (65, 0xffffffffffffffff) ∷
    row 1450 0x7d2903a6 with (9, 0x80000000) => (65, 0x80000000) ∷
    row 1451 0x7ce903a6 with (7, 0xffffffff7fffffff) => (65, 0xffffffff7fffffff) ∷
    row 1452 0x7e2903a6 with (17, 1) => (65, 1) ∷
    row 1453 0x7e2903a6 with (17, 0x7fffffffffffffff) => (65, 0x7fffffffffffffff) ∷
    row 1454 0x7c8903a6 with (4, 0xffffffff) => (65, 0xffffffff) ∷
    row 1455 0x7fe903a6 with (31, 1) => (65, 1) ∷
    row 1456 0x7f8903a6 with (28, 0x7fffffffffffffff) => (65, 0x7fffffffffffffff) ∷
    row 1457 0x7fc903a6 with (30, 0xffffffff) => (65, 0xffffffff) ∷
    row 1458 0x7c8903a6 with (4, 0) => (65, 0) ∷
    row 1459 0x7e8903a6 with (20, 0x8000000000000000) => (65, 0x8000000000000000) ∷
    row 1460 0x7fa903a6 with (29, 0x7fffffff) => (65, 0x7fffffff) ∷
    row 1461 0x7e0903a6 with (16, 0xffffffff80000000) => (65, 0xffffffff80000000) ∷
    row 1462 0x7d8903a6 with (12, 0xffffffffffffffff) => (65, 0xffffffffffffffff) ∷
    row 1463 0x7f8903a6 with (28, 0x80000000) => (65, 0x80000000) ∷
    row 1464 0x7d8903a6 with (12, 0xffffffff7fffffff) => (65, 0xffffffff7fffffff) ∷
    row 1465 0x7dc903a6 => (65, 0x33c2285dfcf72358) ∷
    row 1466 0x7c0903a6 => (65, 0xf6b110066071beb) ∷
    row 1467 0x7fc903a6 => (65, 0xb0e42bb4d6402f7e) ∷
    row 1468 0x7d2903a6 => (65, 0xb4cb2ffc6df021c2) ∷
    row 1469 0x7d2903a6 => (65, 0x91adf2ea5b4fea1) ∷
    row 1470 0x7ee903a6 => (65, 0x54c31c3753b4681a) ∷
    row 1471 0x7c0903a6 => (65, 0x671afb8b9842be48) ∷
    row 1472 0x7c6903a6 => (65, 0x8ab16d098c00a121) ∷
    row 1473 0x7c0903a6 => (65, 0xbc321069adf881e7) ∷
    row 1474 0x7de903a6 => (65, 0x4be33ae7616ccc34) ∷
    row 1475 0x7fe903a6 => (65, 0xc72a2afa7d05c86b) ∷
    row 1476 0x7d2903a6 => (65, 0xa2112f20328ead07) ∷
    row 1477 0x7c2903a6 => (65, 0x4fd374e3925ebfeb) ∷
    row 1478 0x7da903a6 => (65, 0x73c9c8c3217fc232) ∷
    row 1479 0x7e4903a6 => (65, 0x586b93582f058f8e) ∷
    row 1480 0x7ea903a6 => (65, 0x5fbcf690f3263cb5) ∷
    row 1481 0x7c8903a6 => (65, 0xae9cba8185f75db8) ∷
    row 1482 0x7c2903a6 => (65, 0x77de56e9482b1ef0) ∷
    row 1483 0x7fa903a6 => (65, 0x1bad4fa670c5fcf9) ∷
    row 1484 0x7f8903a6 => (65, 0xc882b97392867bb9) ∷
    []) ∷
    -- bcl 20, 31, .+4
    group 0x0 (
    row 1485 0x429f0005 => (64, 0x4018363ac) ∷
    row 1486 0x429f0005 => (64, 0x401839538) ∷
    row 1487 0x429f0005 => (64, 0x183e6fc) ∷
    row 1488 0x429f0005 => (64, 0x18428f0) ∷
    row 1489 0x429f0005 => (64, 0x40184606c) ∷
    row 1490 0x429f0005 => (64, 0x184b2cc) ∷
    row 1491 0x429f0005 => (64, 0x184d008) ∷
    row 1492 0x429f0005 => (64, 0x1852824) ∷
    row 1493 0x429f0005 => (64, 0x201856dc8) ∷
    row 1494 0x429f0005 => (64, 0x40185aba0) ∷
    row 1495 0x429f0005 => (64, 0x40185c458) ∷
    row 1496 0x429f0005 => (64, 0x401861ff0) ∷
    row 1497 0x429f0005 => (64, 0x201864668) ∷
    row 1498 0x429f0005 => (64, 0x401868fbc) ∷
    row 1499 0x429f0005 => (64, 0x186d3f4) ∷
    row 1500 0x429f0005 => (64, 0x187285c) ∷
    row 1501 0x429f0005 => (64, 0x40187524c) ∷
    row 1502 0x429f0005 => (64, 0x20187b720) ∷
    row 1503 0x429f0005 => (64, 0x20187c6d0) ∷
    row 1504 0x429f0005 => (64, 0x201881160) ∷
    row 1505 0x429f0005 => (64, 0x401886978) ∷
    row 1506 0x429f0005 => (64, 0x2018899c8) ∷
    row 1507 0x429f0005 => (64, 0x40188ca48) ∷
    row 1508 0x429f0005 => (64, 0x201891300) ∷
    row 1509 0x429f0005 => (64, 0x18953ec) ∷
    row 1510 0x429f0005 => (64, 0x4018987b4) ∷
    row 1511 0x429f0005 => (64, 0x189f660) ∷
    row 1512 0x429f0005 => (64, 0x4018a2a90) ∷
    row 1513 0x429f0005 => (64, 0x2018a46f8) ∷
    row 1514 0x429f0005 => (64, 0x4018a863c) ∷
    row 1515 0x429f0005 => (64, 0x18af864) ∷
    row 1516 0x429f0005 => (64, 0x4018b1010) ∷
    row 1517 0x429f0005 => (64, 0x4018b67f4) ∷
    row 1518 0x429f0005 => (64, 0x18b8ab8) ∷
    row 1519 0x429f0005 => (64, 0x4018bcdac) ∷
    row 1520 0x429f0005 => (64, 0x18c0e30) ∷
    row 1521 0x429f0005 => (64, 0x4018c618c) ∷
    row 1522 0x429f0005 => (64, 0x2018c87cc) ∷
    row 1523 0x429f0005 => (64, 0x4018ce8e8) ∷
    row 1524 0x429f0005 => (64, 0x2018d2f90) ∷
    []) ∷
    -- bctr
    group 0x0 (
    row 1525 0x4e800420 with (65, 0x8027d9) => (pc, 0x8027d8) ∷
    row 1526 0x4e800420 with (65, 0x200e20a58) => (pc, 0x200e20a58) ∷
    row 1527 0x4e800420 with (65, 0xd3ca56) => (pc, 0xd3ca54) ∷
    row 1528 0x4e800420 with (65, 0x400a508bc) => (pc, 0x400a508bc) ∷
    row 1529 0x4e800420 with (65, 0x161f0e4) => (pc, 0x161f0e4) ∷
    row 1530 0x4e800420 with (65, 0x2016f2d8f) => (pc, 0x2016f2d8c) ∷
    row 1531 0x4e800420 with (65, 0x20018aecb) => (pc, 0x20018aec8) ∷
    row 1532 0x4e800420 with (65, 0x2004b0c3d) => (pc, 0x2004b0c3c) ∷
    row 1533 0x4e800420 with (65, 0x20154e260) => (pc, 0x20154e260) ∷
    row 1534 0x4e800420 with (65, 0x40175d9a9) => (pc, 0x40175d9a8) ∷
    row 1535 0x4e800420 with (65, 0x401782404) => (pc, 0x401782404) ∷
    row 1536 0x4e800420 with (65, 0x2017acf7d) => (pc, 0x2017acf7c) ∷
    row 1537 0x4e800420 with (65, 0x4004a2d5f) => (pc, 0x4004a2d5c) ∷
    row 1538 0x4e800420 with (65, 0x3a6e2f) => (pc, 0x3a6e2c) ∷
    row 1539 0x4e800420 with (65, 0x20032f2bc) => (pc, 0x20032f2bc) ∷
    row 1540 0x4e800420 with (65, 0x4001819cb) => (pc, 0x4001819c8) ∷
    row 1541 0x4e800420 with (65, 0x2011f3139) => (pc, 0x2011f3138) ∷
    row 1542 0x4e800420 with (65, 0x4016b9ed6) => (pc, 0x4016b9ed4) ∷
    row 1543 0x4e800420 with (65, 0x12e22e9) => (pc, 0x12e22e8) ∷
    row 1544 0x4e800420 with (65, 0x400f84f26) => (pc, 0x400f84f24) ∷
    row 1545 0x4e800420 with (65, 0x1901612) => (pc, 0x1901610) ∷
    row 1546 0x4e800420 with (65, 0x2ec697) => (pc, 0x2ec694) ∷
    row 1547 0x4e800420 with (65, 0x114b22d) => (pc, 0x114b22c) ∷
    row 1548 0x4e800420 with (65, 0x10127a2) => (pc, 0x10127a0) ∷
    row 1549 0x4e800420 with (65, 0x40019ca6e) => (pc, 0x40019ca6c) ∷
    row 1550 0x4e800420 with (65, 0x20126a11f) => (pc, 0x20126a11c) ∷
    row 1551 0x4e800420 with (65, 0x40109976b) => (pc, 0x401099768) ∷
    row 1552 0x4e800420 with (65, 0xa39043) => (pc, 0xa39040) ∷
    row 1553 0x4e800420 with (65, 0x133bbd2) => (pc, 0x133bbd0) ∷
    row 1554 0x4e800420 with (65, 0x200cc0aa0) => (pc, 0x200cc0aa0) ∷
    row 1555 0x4e800420 with (65, 0x920a8d) => (pc, 0x920a8c) ∷
    row 1556 0x4e800420 with (65, 0x2006611df) => (pc, 0x2006611dc) ∷
    row 1557 0x4e800420 with (65, 0xc5ba79) => (pc, 0xc5ba78) ∷
    row 1558 0x4e800420 with (65, 0x4004a9ad6) => (pc, 0x4004a9ad4) ∷
    row 1559 0x4e800420 with (65, 0x723042) => (pc, 0x723040) ∷
    row 1560 0x4e800420 with (65, 0x18c2839) => (pc, 0x18c2838) ∷
    row 1561 0x4e800420 with (65, 0x2010e6521) => (pc, 0x2010e6520) ∷
    row 1562 0x4e800420 with (65, 0x401718f44) => (pc, 0x401718f44) ∷
    row 1563 0x4e800420 with (65, 0x14c5aab) => (pc, 0x14c5aa8) ∷
    row 1564 0x4e800420 with (65, 0x201441196) => (pc, 0x201441194) ∷
    []) ∷
    -- b
    group 0x0 (
    row 1565 0x48000000 => (pc, 0x201976068) ∷
    row 1566 0x4bfffffc => (pc, 0x1979fa4) ∷
    row 1567 0x48000004 ∷
    row 1568 0x4a000000 => (pc, 0x1ff982ec0) ∷
    row 1569 0x49fffffc => (pc, 0x2039853ec) ∷
    row 1570 0x4bfffffc => (pc, 0x20198b3fc) ∷
    row 1571 0x48000004 ∷
    row 1572 0x4a000000 => (pc, 0x1ff9904bc) ∷
    row 1573 0x49fffffc => (pc, 0x203995810) ∷
    row 1574 0x48000000 => (pc, 0x20199bba0) ∷
    row 1575 0x48000004 ∷
    row 1576 0x4a000000 => (pc, 0x1ff9a2b54) ∷
    row 1577 0x49fffffc => (pc, 0x4039a7778) ∷
    row 1578 0x48000000 => (pc, 0x2019a9130) ∷
    row 1579 0x4bfffffc => (pc, 0x2019ac868) ∷
    row 1580 0x4a000000 => (pc, 0xffffffffff9b2a88) ∷
    row 1581 0x49fffffc => (pc, 0x2039b7a28) ∷
    row 1582 0x48000000 => (pc, 0x2019b94b0) ∷
    row 1583 0x4bfffffc => (pc, 0x19bea10) ∷
    row 1584 0x48000004 ∷
    row 1585 0x4a39b618 => (pc, 0x3ffd60638) ∷
    row 1586 0x4a1a9090 => (pc, 0x3ffb736b0) ∷
    row 1587 0x49383170 => (pc, 0x402d515c4) ∷
    row 1588 0x4a0cfa0c => (pc, 0x1ffaa1a20) ∷
    row 1589 0x49ffb274 => (pc, 0x4039d1124) ∷
    row 1590 0x481268f4 => (pc, 0x201aff3cc) ∷
    row 1591 0x4825bca4 => (pc, 0x1c3a3d8) ∷
    row 1592 0x4a3ad008 => (pc, 0x1ffd8f920) ∷
    row 1593 0x48245754 => (pc, 0x401c2c284) ∷
    row 1594 0x49a17178 => (pc, 0x4034029a0) ∷
    row 1595 0x4b18a3a4 => (pc, 0x400b783a4) ∷
    row 1596 0x4b46d3c8 => (pc, 0x200e5de80) ∷
    row 1597 0x48835c6c => (pc, 0x20222a764) ∷
    row 1598 0x49ded750 => (pc, 0x2037e6abc) ∷
    row 1599 0x4aa980b8 => (pc, 0x4004964cc) ∷
    row 1600 0x4beca1e0 => (pc, 0x2018cb428) ∷
    row 1601 0x485cbfc4 => (pc, 0x401fd331c) ∷
    row 1602 0x483cbb94 => (pc, 0x401dd42dc) ∷
    row 1603 0x497da3e4 => (pc, 0x4031e79fc) ∷
    row 1604 0x4a57ba8c => (pc, 0xfffffffffff8e500) ∷
    []) ∷
    -- subf
    group 0x0 (
    row 1605 0x7e0c4850 with (9, 0) with (12, 0) => (16, 0) ∷
    row 1606 0x7e000050 with (0, 0x8000000000000000) => (16, 0) ∷
    row 1607 0x7c841850 with (3, 0x7fffffffffffffff) with (4, 0x7fffffff) => (4, 0x7fffffff80000000)
    ∷
    row 1608 0x7e318850 with (17, 0xffffffff80000000) => (17, 0) ∷
    row 1609 0x7d39f850 with (25, 0xffffffffffffffff) with (31, 0xffffffff7fffffff)
    => (9, 0xffffffff80000000) ∷
    row 1610 0x7c842850 with (4, 0x80000000) with (5, 0x80000000) => (4, 0) ∷
    row 1611 0x7c353050 with (6, 0xffffffffffffffff) with (21, 0xffffffff7fffffff)
    => (1, 0x80000000) ∷
    row 1612 0x7dad6850 with (13, 1) => (13, 0) ∷
    row 1613 0x7faef850 with (14, 0x7fffffffffffffff) with (31, 0x7fffffff)
    => (29, 0x8000000080000000) ∷
    row 1614 0x7d202850 with (0, 0xffffffff) with (5, 0x8000000000000000) => (9, 0x7fffffff00000001)
    ∷
    row 1615 0x7eafe850 with (15, 1) with (29, 1) => (21, 0) ∷
    row 1616 0x7e9ad050 with (26, 0x7fffffffffffffff) => (20, 0) ∷
    row 1617 0x7dbc3850 with (7, 0x80000000) with (28, 0xffffffff) => (13, 0xffffffff80000001) ∷
    row 1618 0x7ce7f050 with (7, 0) with (30, 0xffffffffffffffff) => (7, 0xffffffffffffffff) ∷
    row 1619 0x7fa1c850 with (1, 0x8000000000000000) with (25, 0xffffffff80000000)
    => (29, 0x7fffffff80000000) ∷
    row 1620 0x7cea6850 with (10, 0x7fffffff) with (13, 0x7fffffff) => (7, 0) ∷
    row 1621 0x7f0cc050 with (12, 0xffffffff80000000) with (24, 0x8000000000000000)
    => (24, 0x8000000080000000) ∷
    row 1622 0x7f004050 with (0, 0xffffffffffffffff) with (8, 0) => (24, 1) ∷
    row 1623 0x7fd5b850 with (21, 0x80000000) with (23, 0xffffffff) => (30, 0x7fffffff) ∷
    row 1624 0x7dbef050 with (30, 0xffffffff7fffffff) => (13, 0) ∷
    row 1625 0x7dd27850 => (14, 0x2990d8cf2d8c3aa6) ∷
    row 1626 0x7ef7f850 => (23, 0xae18df7945bcbdc2) ∷
    row 1627 0x7e8a8050 => (20, 0x8ef5717b0a736ffc) ∷
    row 1628 0x7d4a5050 => (10, 0) ∷
    row 1629 0x7f9c6050 => (28, 0x33c75afd6f56f5d3) ∷
    row 1630 0x7c206050 => (1, 0x17c6d97a18ca8af5) ∷
    row 1631 0x7c5ed850 => (2, 0x98f6f2b4856377b5) ∷
    row 1632 0x7e37b850 => (17, 0) ∷
    row 1633 0x7def4850 => (15, 0x966e12244b71f794) ∷
    row 1634 0x7e942050 => (20, 0x4b5bb094062006b3) ∷
    row 1635 0x7c0d9850 => (0, 0x919b5fb779fe8a62) ∷
    row 1636 0x7d94b850 => (12, 0x21acb0dd44bb681c) ∷
    row 1637 0x7e3de850 => (17, 0) ∷
    row 1638 0x7c20e850 => (1, 0x610e0938d597ab1e) ∷
    row 1639 0x7f102050 => (24, 0x33e0f9ff5c410a32) ∷
    row 1640 0x7d9bd850 => (12, 0) ∷
    row 1641 0x7f45d050 => (26, 0x8f21413f94b7fc4d) ∷
    row 1642 0x7d089050 => (8, 0x6f562ba0b7553f4) ∷
    row 1643 0x7dbc9050 => (13, 0x234b0d71258845a5) ∷
    row 1644 0x7f7bd850 => (27, 0) ∷
    []) ∷
    -- rldicl
    group 0x0 (
    row 1645 0x79760000 with (11, 0) => (22, 0) ∷
    row 1646 0x79e0ffe2 with (15, 0x8000000000000000) => (0, 0) ∷
    row 1647 0x7a2c0000 with (17, 0x7fffffff) => (12, 0x7fffffff) ∷
    row 1648 0x7a308000 with (17, 0xffffffff80000000) => (16, 0xffff80000000ffff) ∷
    row 1649 0x78de7fe2 with (6, 0xffffffffffffffff) => (30, 1) ∷
    row 1650 0x7908ffe2 with (8, 0x80000000) => (8, 0) ∷
    row 1651 0x7b980000 with (28, 0xffffffff7fffffff) => (24, 0xffffffff7fffffff) ∷
    row 1652 0x7b9c8000 with (28, 1) => (28, 0x10000) ∷
    row 1653 0x7b1f7fe2 with (24, 0x7fffffffffffffff) => (31, 1) ∷
    row 1654 0x79c00000 with (14, 0xffffffff) => (0, 0xffffffff) ∷
    row 1655 0x78bc0000 with (5, 1) => (28, 1) ∷
    row 1656 0x78f28000 with (7, 0x7fffffffffffffff) => (18, 0xffffffffffff7fff) ∷
    row 1657 0x7a537fe2 with (18, 0xffffffff) => (19, 1) ∷
    row 1658 0x79080000 with (8, 0) ∷
    row 1659 0x7afaffe2 with (23, 0x8000000000000000) => (26, 0) ∷
    row 1660 0x7bd48000 with (30, 0x7fffffff) => (20, 0x7fffffff0000) ∷
    row 1661 0x7bef7fe2 with (31, 0xffffffff80000000) => (15, 0) ∷
    row 1662 0x78000000 with (0, 0xffffffffffffffff) ∷
    row 1663 0x79d5ffe2 with (14, 0x80000000) => (21, 0) ∷
    row 1664 0x7a720000 with (19, 0xffffffff7fffffff) => (18, 0xffffffff7fffffff) ∷
    row 1665 0x79346f62 => (20, 5) ∷
    row 1666 0x7a7314c0 => (19, 0xeb3a19a05c5) ∷
    row 1667 0x78f222a0 => (18, 0x3afe1c) ∷
    row 1668 0x798cd9a0 => (12, 0x1554e45) ∷
    row 1669 0x7861e222 => (1, 0xb3f5d6) ∷
    row 1670 0x79e0b542 => (0, 0x3f47d18b380) ∷
    row 1671 0x7a995902 => (25, 0x7dd8fed1174f1f8) ∷
    row 1672 0x78e15102 => (1, 0xfe7e040dcd1f602) ∷
    row 1673 0x79f8c102 => (24, 0x1e7106c25f238ab) ∷
    row 1674 0x7b5afc60 => (26, 0x668e) ∷
    row 1675 0x78670b00 => (7, 0x5e42efe8f7f10) ∷
    row 1676 0x7b158ec2 => (21, 0x1d18a00e9e) ∷
    row 1677 0x78158900 => (21, 0xd1725a3d4d5ada4) ∷
    row 1678 0x7aa04ec2 => (0, 0x1d258eecce) ∷
    row 1679 0x7a6af5c0 => (10, 0x157e9c009b6) ∷
    row 1680 0x79209900 => (0, 0x7cd335e0d349630) ∷
    row 1681 0x78847d22 => (4, 0x8c7) ∷
    row 1682 0x7a5249e2 => (18, 0x146d85a) ∷
    row 1683 0x78733be0 => (19, 0x278f) ∷
    row 1684 0x78420980 => (2, 0xaa6411317afc20) ∷
    []) ∷
    -- blr
    group 0x0 (
    row 1685 0x4e800020 with (64, 0x200efc8eb) => (pc, 0x200efc8e8) ∷
    row 1686 0x4e800020 with (64, 0xbbacc0) => (pc, 0xbbacc0) ∷
    row 1687 0x4e800020 with (64, 0x1742dcc) => (pc, 0x1742dcc) ∷
    row 1688 0x4e800020 with (64, 0x400b1f951) => (pc, 0x400b1f950) ∷
    row 1689 0x4e800020 with (64, 0x2004ff5bd) => (pc, 0x2004ff5bc) ∷
    row 1690 0x4e800020 with (64, 0x201868760) => (pc, 0x201868760) ∷
    row 1691 0x4e800020 with (64, 0x200ff1c0f) => (pc, 0x200ff1c0c) ∷
    row 1692 0x4e800020 with (64, 0x2004e9a1a) => (pc, 0x2004e9a18) ∷
    row 1693 0x4e800020 with (64, 0x326842) => (pc, 0x326840) ∷
    row 1694 0x4e800020 with (64, 0x40020a980) => (pc, 0x40020a980) ∷
    row 1695 0x4e800020 with (64, 0x200b81fea) => (pc, 0x200b81fe8) ∷
    row 1696 0x4e800020 with (64, 0x4012b6e7a) => (pc, 0x4012b6e78) ∷
    row 1697 0x4e800020 with (64, 0x121133c) => (pc, 0x121133c) ∷
    row 1698 0x4e800020 with (64, 0x200303967) => (pc, 0x200303964) ∷
    row 1699 0x4e800020 with (64, 0x401256100) => (pc, 0x401256100) ∷
    row 1700 0x4e800020 with (64, 0x1af85eb) => (pc, 0x1af85e8) ∷
    row 1701 0x4e800020 with (64, 0xbf8981) => (pc, 0xbf8980) ∷
    row 1702 0x4e800020 with (64, 0x200b33b61) => (pc, 0x200b33b60) ∷
    row 1703 0x4e800020 with (64, 0x18849e7) => (pc, 0x18849e4) ∷
    row 1704 0x4e800020 with (64, 0x20168f8de) => (pc, 0x20168f8dc) ∷
    row 1705 0x4e800020 with (64, 0x14d9fe7) => (pc, 0x14d9fe4) ∷
    row 1706 0x4e800020 with (64, 0x401a51519) => (pc, 0x401a51518) ∷
    row 1707 0x4e800020 with (64, 0x401901abb) => (pc, 0x401901ab8) ∷
    row 1708 0x4e800020 with (64, 0x20178f762) => (pc, 0x20178f760) ∷
    row 1709 0x4e800020 with (64, 0x2001e686d) => (pc, 0x2001e686c) ∷
    row 1710 0x4e800020 with (64, 0xe1ad87) => (pc, 0xe1ad84) ∷
    row 1711 0x4e800020 with (64, 0x400abb4ed) => (pc, 0x400abb4ec) ∷
    row 1712 0x4e800020 with (64, 0x200421767) => (pc, 0x200421764) ∷
    row 1713 0x4e800020 with (64, 0x14877c) => (pc, 0x14877c) ∷
    row 1714 0x4e800020 with (64, 0x40010d617) => (pc, 0x40010d614) ∷
    row 1715 0x4e800020 with (64, 0x306ead) => (pc, 0x306eac) ∷
    row 1716 0x4e800020 with (64, 0x401b1faa3) => (pc, 0x401b1faa0) ∷
    row 1717 0x4e800020 with (64, 0xcd23d1) => (pc, 0xcd23d0) ∷
    row 1718 0x4e800020 with (64, 0x1111040) => (pc, 0x1111040) ∷
    row 1719 0x4e800020 with (64, 0x400665e6f) => (pc, 0x400665e6c) ∷
    row 1720 0x4e800020 with (64, 0x40074a3fb) => (pc, 0x40074a3f8) ∷
    row 1721 0x4e800020 with (64, 0x121af64) => (pc, 0x121af64) ∷
    row 1722 0x4e800020 with (64, 0x1e762e) => (pc, 0x1e762c) ∷
    row 1723 0x4e800020 with (64, 0x20171d2d6) => (pc, 0x20171d2d4) ∷
    row 1724 0x4e800020 with (64, 0x7c1830) => (pc, 0x7c1830) ∷
    []) ∷
    -- paddi with R = 0
    group 0x0 (
    row 1725 0x3ab8000006000000 with (24, 0) => (21, 0) ∷
    row 1726 0x3a80ffff0603ffff with (0, 0x8000000000000000) => (20, 0xffffffffffffffff) ∷
    row 1727 0x3b59000106000000 with (25, 0x7fffffff) => (26, 0x80000000) ∷
    row 1728 0x3a43000006020000 with (3, 0xffffffff80000000) => (18, 0xfffffffd80000000) ∷
    row 1729 0x382bffff0601ffff with (11, 0xffffffffffffffff) => (1, 0x1fffffffe) ∷
    row 1730 0x3b9cffff06000000 with (28, 0x80000000) with (pc, 0x401c0b038) => (28, 0x8000ffff) ∷
    row 1731 0x38fc000006000001 with (28, 0xffffffff7fffffff) => (7, 0xffffffff8000ffff) ∷
    row 1732 0x3884800006000000 with (4, 1) => (4, 0x8001) ∷
    row 1733 0x395700000603ffff with (23, 0x7fffffffffffffff) => (10, 0x7ffffffffffeffff) ∷
    row 1734 0x3920ffff0603ffff with (0, 0xffffffff) => (9, 0xffffffffffffffff) ∷
    row 1735 0x3b5a000106000000 with (26, 1) => (26, 2) ∷
    row 1736 0x3bc2000006020000 with (2, 0x7fffffffffffffff) => (30, 0x7ffffffdffffffff) ∷
    row 1737 0x3af3ffff0601ffff with (19, 0xffffffff) with (pc, 0x1c26b78) => (23, 0x2fffffffe) ∷
    row 1738 0x39ceffff06000000 with (14, 0) => (14, 0xffff) ∷
    row 1739 0x384d000006000001 with (13, 0x8000000000000000) => (2, 0x8000000000010000) ∷
    row 1740 0x3a2f800006000000 with (15, 0x7fffffff) => (17, 0x80007fff) ∷
    row 1741 0x3ab900000603ffff with (25, 0xffffffff80000000) with (pc, 0x201c35bb8)
    => (21, 0xffffffff7fff0000) ∷
    row 1742 0x3b80000006000000 with (0, 0xffffffffffffffff) => (28, 0) ∷
    row 1743 0x388b000106000000 with (11, 0x80000000) => (4, 0x80000001) ∷
    row 1744 0x3aa4000006020000 with (4, 0xffffffff7fffffff) => (21, 0xfffffffd7fffffff) ∷
    row 1745 0x381ae7a7060153fc => (0, 0x8a1aff19045ce34c) ∷
    row 1746 0x38e7f2210603f2db => (7, 0xa9920d657c7109c9) ∷
    row 1747 0x39f8cf9b060162a1 => (15, 0x7e3bc12e338b31b5) ∷
    row 1748 0x394ae2b806012948 => (10, 0xd46222e42744eb46) ∷
    row 1749 0x3abeb52f0600344a => (21, 0x7ee8d6eaa1b5e590) ∷
    row 1750 0x3aa0a08f06021a5b => (21, 0xfffffffe1a5ba08f) ∷
    row 1751 0x3ba697fc06008e8b => (29, 0xd107b0f31cce0c14) ∷
    row 1752 0x3a7b52cb0602c725 => (19, 0x3eda417effd305f8) ∷
    row 1753 0x3877f25a0601344b => (3, 0xa96b4803ec759ea2) ∷
    row 1754 0x384270060600f458 => (2, 0x503f9c071ea6cf54) ∷
    row 1755 0x3b925a4f06014cd6 => (28, 0xa2669042bdbadb4d) ∷
    row 1756 0x38b38827060103c0 => (5, 0xab1b959e393e3406) ∷
    row 1757 0x3b983c50060397c0 => (28, 0xd154b0c4c9e0e8b0) ∷
    row 1758 0x3aa088bd0603a7ad => (21, 0xffffffffa7ad88bd) ∷
    row 1759 0x388dc6d606039b3b => (4, 0x3510bb246a38a113) ∷
    row 1760 0x3b0b13c80601bebc => (24, 0x4e96fee1d263eef9) ∷
    row 1761 0x38912aee0601da90 => (4, 0xbaeca67e01659e45) ∷
    row 1762 0x3908e85e0602b292 => (8, 0x33919cc08dad3ee4) ∷
    row 1763 0x3bda796e06033870 => (30, 0xfe0611ea65a2eb7c) ∷
    row 1764 0x38e7feb00603d456 => (7, 0x487f67ad832a2ebe) ∷
    []) ∷
    -- mr
    group 0x0 (
    row 1765 0x7c651b78 with (3, 0) => (5, 0) ∷
    row 1766 0x7ce03b78 with (7, 0x8000000000000000) => (0, 0x8000000000000000) ∷
    row 1767 0x7fdaf378 with (30, 0x7fffffff) => (26, 0x7fffffff) ∷
    row 1768 0x7c441378 with (2, 0xffffffff80000000) => (4, 0xffffffff80000000) ∷
    row 1769 0x7c972378 with (4, 0xffffffffffffffff) => (23, 0xffffffffffffffff) ∷
    row 1770 0x7c631b78 with (3, 0x80000000) ∷
    row 1771 0x7c230b78 with (1, 0xffffffff7fffffff) => (3, 0xffffffff7fffffff) ∷
    row 1772 0x7ce73b78 with (7, 1) ∷
    row 1773 0x7fe5fb78 with (31, 0x7fffffffffffffff) => (5, 0x7fffffffffffffff) ∷
    row 1774 0x7e609b78 with (19, 0xffffffff) => (0, 0xffffffff) ∷
    row 1775 0x7e318b78 with (17, 1) ∷
    row 1776 0x7f93e378 with (28, 0x7fffffffffffffff) => (19, 0x7fffffffffffffff) ∷
    row 1777 0x7de97b78 with (15, 0xffffffff) => (9, 0xffffffff) ∷
    row 1778 0x7ce73b78 with (7, 0) ∷
    row 1779 0x7c8a2378 with (4, 0x8000000000000000) => (10, 0x8000000000000000) ∷
    row 1780 0x7ec4b378 with (22, 0x7fffffff) => (4, 0x7fffffff) ∷
    row 1781 0x7dc87378 with (14, 0xffffffff80000000) => (8, 0xffffffff80000000) ∷
    row 1782 0x7cc03378 with (6, 0xffffffffffffffff) => (0, 0xffffffffffffffff) ∷
    row 1783 0x7fdff378 with (30, 0x80000000) => (31, 0x80000000) ∷
    row 1784 0x7dc97378 with (14, 0xffffffff7fffffff) => (9, 0xffffffff7fffffff) ∷
    row 1785 0x7f43d378 => (3, 0x285fd5b888d8f80d) ∷
    row 1786 0x7f39cb78 ∷
    row 1787 0x7d5f5378 => (31, 0x6b1b8c3c426e5c54) ∷
    row 1788 0x7e94a378 ∷
    row 1789 0x7c370b78 => (23, 0xbd9100d6fb4515c6) ∷
    row 1790 0x7c802378 => (0, 0x203e67da3692eabc) ∷
    row 1791 0x7fb3eb78 => (19, 0xb4a132d8626a9415) ∷
    row 1792 0x7d1b4378 => (27, 0x4d60f5f3ab8ce31b) ∷
    row 1793 0x7d8c6378 ∷
    row 1794 0x7d294b78 ∷
    row 1795 0x7f4ad378 => (10, 0x43ef58441da4d80) ∷
    row 1796 0x7e0f8378 => (15, 0xeb3728ef90e3cddf) ∷
    row 1797 0x7fbceb78 => (28, 0xee57af012b17ea3b) ∷
    row 1798 0x7c802378 => (0, 0xe4eee1a3bbde1f66) ∷
    row 1799 0x7ce23b78 => (2, 0x2862c6d0b1071002) ∷
    row 1800 0x7cf13b78 => (17, 0xf01f733bfe6415f8) ∷
    row 1801 0x7c4c1378 => (12, 0xb52994560ac56a60) ∷
    row 1802 0x7d4a5378 ∷
    row 1803 0x7dc67378 => (6, 0xc2b8869e74737247) ∷
    row 1804 0x7c631b78 ∷
    []) ∷
    []

unfoldable pub ppc64_vector_groups : List Group
ppc64_vector_groups =
    -- stvx
    group 0x0 (
    row 1805 0x7cb619ce with (3, 0x404ea24cf) with (22, 0) with (133, 0) => (m1, 0) => (m2, 0) ∷
    row 1806 0x7d6089ce with (0, 0x8000000000000000) with (17, 0x204316470) with (139, 1)
    => (m0, 0x1d66103a21e) => (m1, 0) => (m2, 0xd1981b0000000000) ∷
    row 1807 0x7f3d19ce with (3, 0xffffffff80000012) with (29, 0x7fffffff) with (at, 1)
    with (153, 0xffffffffffffffffffffffffffffffff) => (m1, 0xff8183317326df2f)
    => (m2, 0xffffffffffffffff) => (m3, 0x3fffffffffffffff) ∷
    row 1808 0x7f5ce1ce with (28, 0x8000000202345e04) with (154, 0x80000000000000000000000000000000)
    => (m1, 0x5d) => (m2, 0) => (m3, 0x26d836e73cb51c80) ∷
    row 1809 0x7d30d9ce with (16, 0xffffffffffffffff) with (27, 0x4ae2938)
    with (137, 0x7fffffffffffffffffffffffffffffff) => (m1, 0xffffffffffffffb2)
    => (m2, 0xffffffffffffffff) => (m3, 0xe201ab96f9f2697f) ∷
    row 1810 0x7e6c21ce with (4, 0xffffffff84d68910) with (12, 0x80000000)
    with (147, 0x10000000000000000) => (m0, 0x3bc3) => (m1, 0x10000) => (m2, 0xb892e50b0e8d0000) ∷
    row 1811 0x7d4051ce with (0, 0xffffffff7fffffff) with (10, 0x207fffff1) with (at, 0x207ffffe0)
    with (138, 0xffffffffffffffff) => (m2, 0xffffffffffffffff) => (m3, 0) ∷
    row 1812 0x7ecb29ce with (5, 0x404257667) with (11, 1) with (150, 1) => (m1, 1) => (m2, 0) ∷
    row 1813 0x7ff6f1ce with (22, 0x7fffffffffffffff) with (30, 0x8000000004f6ae78)
    with (159, 0xffffffffffffffffffffffffffffffff) => (m1, 0xffffffffffffff8e)
    => (m2, 0xffffffffffffffff) => (m3, 0x86b40cb483800fff) ∷
    row 1814 0x7ee001ce with (0, 0x204002e9f) with (151, 0x80000000000000000000000000000000)
    => (m1, 0x754b230c90a8) => (m2, 0) => (m3, 0xa25d800000000000) ∷
    row 1815 0x7ea211ce with (2, 0x8000000000000008) with (at, 1)
    with (149, 0x7fffffffffffffffffffffffffffffff) => (m1, 0xffd564b318879ce8)
    => (m2, 0xffffffffffffffff) => (m3, 0x8c7fffffffffffff) ∷
    row 1816 0x7f0841ce with (8, 0x80000001025e0374) with (152, 0x10000000000000000) => (m0, 0)
    => (m1, 1) ∷
    row 1817 0x7ce161ce with (1, 0xffffffff) with (12, 0x104c3b488) with (135, 0xffffffffffffffff)
    => (m1, 0xffffffffffffffff) => (m2, 0) ∷
    row 1818 0x7eb621ce with (4, 0x20403aa2f) with (22, 0) with (149, 0) => (m0, 0xb2f669)
    => (m1, 0) => (m2, 0xfa4eff5b02000000) ∷
    row 1819 0x7ec701ce with (0, 0x8000000407fffff0) with (7, 0x8000000000000000)
    with (at, 0x407ffffe0) with (150, 0xffffffffffffffffffffffffffffffff)
    => (m2, 0xffffffffffffffff) => (m3, 0xffffffffffffffff) ∷
    row 1820 0x7f5d91ce with (18, 0xffffffff8481c2f9) with (29, 0x7fffffff)
    with (154, 0x80000000000000000000000000000000) => (m1, 0xc2d38478) => (m2, 0)
    => (m3, 0xcdc1ee7a80000000) ∷
    row 1821 0x7c5559ce with (11, 0x2846a90b7) with (21, 0xffffffff80000000)
    with (130, 0x7fffffffffffffffffffffffffffffff) => (m0, 0xffffffffffffffff)
    => (m1, 0x7fffffffffffffff) ∷
    row 1822 0x7d2029ce with (0, 0xffffffffffffffff) with (5, 0x20436514f)
    with (137, 0x10000000000000000) => (m1, 0xd55c96f8) => (m2, 0x100000000)
    => (m3, 0x42bb4db300000000) ∷
    row 1823 0x7f0f91ce with (15, 0x80000000) with (18, 0xffffffff80000010) with (at, 1)
    with (152, 0xffffffffffffffff) => (m1, 0xff532101a81e6473) => (m2, 0xffffffffffffff)
    => (m3, 0xd700000000000000) ∷
    row 1824 0x7d35a9ce with (21, 0x800000020210aa88) with (137, 0) => (m0, 0x38d7) => (m1, 0)
    => (m2, 0xb4e632ab03600000) ∷
    row 1825 0x7ee201ce with (0, 0xccbe85686e0832b0) => (m1, 0xdd4d689fe09c87de)
    => (m2, 0x6375bf7c3a6daea6) => (m3, 0xa096ba23a2e5e3e5) ∷
    row 1826 0x7ef339ce with (7, 0x9ce57d030ac8a22) => (m0, 0x109f8df54540bae1)
    => (m1, 0x94ceede0aa6a6c94) => (m2, 0x35f53575e057b594) ∷
    row 1827 0x7e5e29ce with (5, 0x140b6924c3852592) with (at, 0x7ffffe0)
    => (m2, 0x6875deb885b01bdc) => (m3, 0xd8b9aa7ef8b5250e) ∷
    row 1828 0x7e8d49ce with (9, 0x8839c5f45f087490) => (m0, 0x58ffb86a73fc9d88)
    => (m1, 0xe67c2aed32a8836a) => (m2, 0xd5ff53574da57d30) ∷
    row 1829 0x7d0e01ce with (0, 0xca04beab1aee2593) => (m0, 0x978d575b7cb2e316)
    => (m1, 0xe8c25f4632a3c789) => (m2, 0xdb69dcab9ca4e903) ∷
    row 1830 0x7e8001ce with (0, 0x404d3cc99) => (m1, 0x7f766d1b71e2a71a)
    => (m2, 0xb23cd90671e5652e) => (m3, 0x4ce09fd885f1f755) ∷
    row 1831 0x7d8a31ce with (6, 0xb1a6eb8a7ea09df9) with (at, 1) => (m1, 0xcfc9adf121eb35cf)
    => (m2, 0xf32dc6f493fd7b99) => (m3, 0x4e797b79069d67ec) ∷
    row 1832 0x7f0109ce with (1, 0x80000002024c534e) => (m1, 0x272ae63dad9c9cab)
    => (m2, 0x5685de141b0d7616) => (m3, 0x1abbdd05cb9d00b7) ∷
    row 1833 0x7d3111ce with (2, 0xb24d5ee844682593) => (m1, 0xa5844f1714f6dbae)
    => (m2, 0x4f01ef67e1f50b34) => (m3, 0x707b5f7a6241a25b) ∷
    row 1834 0x7fe249ce with (9, 0x16b2d7aeee9f0f44) => (m0, 0xf20006c4fc04892a)
    => (m1, 0x2aa73efe3ac49266) => (m2, 0x93216947a9bbb8ac) ∷
    row 1835 0x7ee0e9ce with (29, 0x207fffff6) with (at, 0x207ffffe0) => (m2, 0x94ea7760613f4704)
    => (m3, 0xb1f0653569e70a00) ∷
    row 1836 0x7e0d31ce with (6, 0x429d39d493f5679f) => (m1, 0x739ee84070faa9a4)
    => (m2, 0xbcd501bf4b2fe106) => (m3, 0xa3de7a017f6d615d) ∷
    row 1837 0x7f13f1ce with (30, 0xbc35ee608c313e6c) => (m0, 0xfd041165e86fe50e)
    => (m1, 0x5cff0b4eb0b12334) => (m2, 0xdbcd70e4ae6b3ae2) ∷
    row 1838 0x7da0b1ce with (22, 0x4042df5c5) => (m0, 0x4b3ca9232a3339fd)
    => (m1, 0x27a372e74b5cb593) => (m2, 0xf67f674b2579a94d) ∷
    row 1839 0x7f1961ce with (12, 0xf42b69f6a543ee77) with (at, 1) => (m1, 0x9cc6389785ee10fc)
    => (m2, 0x435297b248d1a783) => (m3, 0xe69955a8a498d580) ∷
    row 1840 0x7e98c1ce with (24, 0x1026652fc) => (m1, 0xd3ecd60bdbd9db12)
    => (m2, 0x36c5b3b85e3a9939) => (m3, 0xa8fa45847b818933) ∷
    row 1841 0x7d7319ce with (3, 0xe3c579997aeacb75) => (m0, 0x8167eae04e7a31b8)
    => (m1, 0x81de1773837f063b) => (m2, 0x4ecf6d37c4f5a6d1) ∷
    row 1842 0x7f5ce1ce with (28, 0x800000020250e5d7) => (m1, 0xfc139964820eba9f)
    => (m2, 0x49c176323b0e8505) ∷
    row 1843 0x7e6a61ce with (12, 0x52ec7e761094a2dd) with (at, 0x207ffffe0)
    => (m2, 0xa24d7a59fdd11ca) => (m3, 0xf0c8c955d55cebf1) ∷
    row 1844 0x7d43b9ce with (23, 0x67c036bcb0e7b53e) => (m0, 0xb85805e988d548d4)
    => (m1, 0xafc1748834c66256) => (m2, 0x731d68f8245c235b) ∷
    []) ∷
    -- lvx
    group 0x0 (
    row 1845 0x7c9940ce with (8, 0x487a09f) with (25, 0) with (m1, 0)
    => (132, 0xd394bb9146383b478032710000000000) ∷
    row 1846 0x7c8048ce with (0, 0x8000000000000000) with (9, 0x40444ccf0) with (m1, 0xffffffff)
    => (132, 0x49144b00000000ffffffffba27b2bcdd) ∷
    row 1847 0x7dfd80ce with (16, 0xffffffff80000012) with (29, 0x7fffffff)
    with (m1, 0x7fffffffffffffff) with (at, 1) => (143, 0xa1c80ae0c5824760fa6e862ebace4c7f) ∷
    row 1848 0x7d9bd8ce with (27, 0x202095454) with (m1, 1)
    => (140, 0x28371414bbbd485bceeae7ebd5607500) ∷
    row 1849 0x7ff768ce with (13, 0x2042357d8) with (23, 0xffffffffffffffff)
    with (m1, 0xffffffff7fffffff) => (159, 0x8498cac5ffffffff7fffffff9c326275) ∷
    row 1850 0x7e0330ce with (3, 0x80000000) with (6, 0x384c1a470) with (m1, 0x80000000)
    => (144, 0x191bfbf9050d3c0000000080000000d6) ∷
    row 1851 0x7ebd30ce with (6, 0x287fffff2) with (29, 0xffffffff7fffffff)
    with (m1, 0xffffffffffffffff) with (at, 0x207ffffe0) => (149, 0xc505bbad6937f36356454c2491a27db)
    ∷
    row 1852 0x7e6580ce with (5, 1) with (16, 0x404a715d7) with (m1, 0xffffffff80000000)
    => (147, 0xeb74d81aa0ffffffff8000000092c195) ∷
    row 1853 0x7ca200ce with (0, 0x800000040498e548) with (2, 0x7fffffffffffffff)
    with (m1, 0x7fffffff) => (133, 0x809f7c3ee58e000000007fffffffaa43) ∷
    row 1854 0x7ec000ce with (0, 0x4c2fccf) with (m1, 0x8000000000000000)
    => (150, 0x85bc9f1fb65f4e88a280000000000000) ∷
    row 1855 0x7ffc68ce with (13, 0x10) with (28, 1) with (m1, 1) with (at, 1)
    => (159, 0xcd799a86eefe99ba1fe2581e0703dd00) ∷
    row 1856 0x7c7ce0ce with (28, 0x800000020235574c) with (m1, 0xffffffff7fffffff)
    => (131, 0xb75f1c982bfad41adaf25cb8685740ff) ∷
    row 1857 0x7c95b0ce with (21, 0xffffffff) with (22, 0x30492f388) with (m1, 0x80000000)
    => (132, 0x79ec2e7282cb0000000080000000a572) ∷
    row 1858 0x7d90e0ce with (16, 0) with (28, 0x404f3808f) with (m1, 0xffffffffffffffff)
    => (140, 0xffffffffffffffff82305c30eb942eee) ∷
    row 1859 0x7e6b58ce with (11, 0x8000000003fffff8) with (m1, 0xffffffff80000000)
    with (at, 0x7ffffe0) => (147, 0x59376ee7f1d80071bac8475bad816255) ∷
    row 1860 0x7f1b20ce with (4, 0x384081d69) with (27, 0x7fffffff) with (m1, 0x7fffffff)
    => (152, 0x1655000000007fffffffebb122044686) ∷
    row 1861 0x7ec5c0ce with (5, 0xffffffff80000000) with (24, 0x484118297)
    with (m1, 0x8000000000000000) => (150, 0xa69b33a27c80000000000000001c8e36) ∷
    row 1862 0x7d2008ce with (0, 0xffffffffffffffff) with (1, 0x204532fdf) with (m1, 0)
    => (137, 0x9f6f69c253885b8a06ca000000000000) ∷
    row 1863 0x7ddda8ce with (21, 0xffffffff80000010) with (29, 0x80000000) with (m1, 0xffffffff)
    with (at, 1) => (142, 0x8e3ba3174e84bd375d83ccf789434000) ∷
    row 1864 0x7cbce0ce with (28, 0x1023fb138) with (m1, 0x7fffffffffffffff)
    => (133, 0xfc1a05d242324a25519c6f3157dd7fff) ∷
    row 1865 0x7e59f0ce with (30, 0x9e5e8a70490cb148) => (146, 0x44a16e1212c70c7c8d1dd038a7b4aded) ∷
    row 1866 0x7e2880ce with (16, 0xab86f31884276913) => (145, 0x4983858bf17c098d479dabf2c49aa930) ∷
    row 1867 0x7d1500ce with (0, 0x84734e419b3a7a61) with (at, 0x7ffffe0)
    => (136, 0x41377509f7528b7d39c20fbffc1ea6a0) ∷
    row 1868 0x7ed870ce with (14, 0x48b891ef0128efb5) => (150, 0x9067dcef56e26a1bda34164d98c7d169) ∷
    row 1869 0x7cff98ce with (19, 0x3690309a0a7bb5fa) => (135, 0x6ab63e78a45e693b4d3daa1312ea0e56) ∷
    row 1870 0x7f6000ce with (0, 0x4f5662a) => (155, 0xfd41fb8ec43f8a251a39ab8b07f5c054) ∷
    row 1871 0x7f2218ce with (3, 0x3b2bab78fff67c21) with (at, 1)
    => (153, 0xdc98a091e414b2baa5a30cbb418c746b) ∷
    row 1872 0x7fac60ce with (12, 0x8000000102286220) => (157, 0xce5dae93629af5ae931030624b61ea5f) ∷
    row 1873 0x7feed0ce with (26, 0x511a37a7a2dc365) => (159, 0xc8104aa85618ccd3e5120442f98d26be) ∷
    row 1874 0x7cb5b0ce with (22, 0xaf7957c287afa191) => (133, 0x3e19361c7b0df04d089670b18ef69969) ∷
    row 1875 0x7d7980ce with (16, 0x75316518c8e7e718) with (at, 0x407ffffe0)
    => (139, 0x866e93a4e703205bb7760dc734f1f4bd) ∷
    row 1876 0x7fb9a8ce with (21, 0x19a45575e64e61fd) => (157, 0x28f8842b31202ec3ad270e32639f3f7d) ∷
    row 1877 0x7f2b08ce with (1, 0xc2dc74e2dcfa3513) => (153, 0x300197bf39cc7f5b5ef44f6d9826b63d) ∷
    row 1878 0x7d0028ce with (5, 0x204544a6f) => (136, 0xadc9c69c5375d611faf9b804ebbf673b) ∷
    row 1879 0x7d8728ce with (5, 0xbdc451abb5baee8f) with (at, 1)
    => (140, 0xb0f354f6afae795f73c003692fdf79a7) ∷
    row 1880 0x7cc318ce with (3, 0x21a14aa) => (134, 0x6f2c9b65768b5a5fff66ee80da5c75af) ∷
    row 1881 0x7c9598ce with (19, 0xe822e9136c06be5a) => (132, 0x8157247b0673508585e0a943e5c36645) ∷
    row 1882 0x7ebe28ce with (5, 0xbad2c91137ee8a1c) => (149, 0x5860a5f792cb2d2325f16e0cf82f3f44) ∷
    row 1883 0x7e7948ce with (9, 0xf0af2c5fcaf7bc41) with (at, 0x407ffffe0)
    => (147, 0x98914534c0e9bf0b6092819957fb4cab) ∷
    row 1884 0x7f9498ce with (19, 0x4cde801a95ddab7b) => (156, 0x54b1f8d444592dcd3778708104cac80b) ∷
    []) ∷
    []

unfoldable pub ppc64_savegpr0 : Functions
ppc64_savegpr0 =
    -- _savegpr0_N
    functions
    (0xf9c1ff70 ∷ 0xf9e1ff78 ∷ 0xfa01ff80 ∷ 0xfa21ff88 ∷ 0xfa41ff90 ∷ 0xfa61ff98 ∷ 0xfa81ffa0 ∷
    0xfaa1ffa8 ∷ 0xfac1ffb0 ∷ 0xfae1ffb8 ∷ 0xfb01ffc0 ∷ 0xfb21ffc8 ∷ 0xfb41ffd0 ∷ 0xfb61ffd8 ∷
    0xfb81ffe0 ∷ 0xfba1ffe8 ∷ 0xfbc1fff0 ∷ 0xfbe1fff8 ∷ 0xf8010010 ∷ 0x4e800020 ∷ []) (
    row 1885 14 with (1, 0x43cc417) with (64, 0x201bedd5a) => (pc, 0x201bedd58)
    => (162, 0xe4ad47bebe74f769) => (163, 0xe6d0621a621aa812) => (164, 0x4d1157f5d373465)
    => (165, 0x3eaf61edafca9c60) => (166, 0x946b476559d4e004) => (167, 0x604c5e65b55ff51)
    => (168, 0x937bdd70b44dfa46) => (169, 0x3cd08e0464bcd0e5) => (170, 0x202d7a16ca2832c)
    => (171, 0xe312ba47cbff111c) => (172, 0xe00035f782d27ab5) => (173, 0xf8cb4ab0911cbff7)
    => (174, 0x2d73f872f6dde0e2) => (175, 0x7dfa3f3eb415dd75) => (176, 0xea5e1f13c8c4b5b2)
    => (177, 0x729f97f234ea6997) => (178, 0x16bea9d9f886f925) => (179, 0xd6bb54cb139a645c)
    => (182, 0xc6e75990ab256666) ∷
    row 1886 15 with (1, 0x207ffffe8) with (64, 0x201badd83) with (at, 0x207ffff30)
    => (pc, 0x201badd80) => (166, 0x9a02d85f310d91fb) => (167, 0x326141a305c725)
    => (168, 0x823f832d6c74d7f8) => (169, 0x202a3e228d5ac475) => (170, 0xd9f2922105b78c99)
    => (171, 0xaf987f28d58b3067) => (172, 0xa11c0539fcd5afde) => (173, 0xae7d24547b970afd)
    => (174, 0xd7bbdc7851cf41c6) => (175, 0x31fe55957f7e5437) => (176, 0x347b5cf604a44251)
    => (177, 0x52d5fd5fe1410c14) => (178, 0x8d0e36d31554b17f) => (179, 0xe324094fa0df3294)
    => (180, 0x551774d583e08f51) => (181, 0xe2e87964be58c7b8) => (182, 0x8c9716fd5047dbc7)
    => (185, 0xad198f7b83396ba4) ∷
    row 1887 16 with (1, 0x20485e90d) with (64, 0x40153af05) => (pc, 0x40153af04)
    => (164, 0x4c5fb91ac47d320d) => (165, 0xb81ecdae04c7ebb8) => (166, 0x3fbb7b4a9c89810d)
    => (167, 0xe335c1f08bc1f20a) => (168, 0xa28da19fd2713eb0) => (169, 0x7dc31a58709766fe)
    => (170, 0x74d62c1a66346af6) => (171, 0x87c6d6e5b3484a96) => (172, 0xb6951aba57d305e0)
    => (173, 0x140f79853d49cd2) => (174, 0x67ca6d7fa74d0f6d) => (175, 0xea317c70523c5db1)
    => (176, 0x8876246a54a2879d) => (177, 0x4298656dae7f8d33) => (178, 0x18983f7a5fd36e71)
    => (179, 0xa75b290689e2b59) => (182, 0xea2f26dd36f64909) ∷
    row 1888 17 with (1, 0x47ee79c) with (64, 0x2007dedd8) => (pc, 0x2007dedd8)
    => (165, 0x80f5fdb78c3d79f) => (166, 0xd7dae2f5876115cc) => (167, 0xb754e936ed752fa1)
    => (168, 0x605ebb8dab00251f) => (169, 0x254626edc001f646) => (170, 0x60b2b572c7aa316)
    => (171, 0x2adc8c9f06a2b8e) => (172, 0x1b2dff460bd08fb0) => (173, 0x4f8bcecb7eadcf7a)
    => (174, 0x9fc7375a4901eaed) => (175, 0xbe038f26acce209) => (176, 0x93d6d393e40eb4ce)
    => (177, 0x37ab073eb4c7633c) => (178, 0xf75cd3f2dcf6ed52) => (179, 0xd2ec39b05c9d5312)
    => (182, 0xe2fc21b5c65bfe96) ∷
    row 1889 18 with (1, 0x404b02e37) with (64, 0x400b275a3) => (pc, 0x400b275a0)
    => (166, 0xa06e50b4de182b2) => (167, 0xdf61f3d62ad14560) => (168, 0xd09a9baa5f37e3b6)
    => (169, 0xddb0dc87eb155db5) => (170, 0x6a4b66ece69b35d) => (171, 0x4b76295f0934e4ae)
    => (172, 0xac2535589b76f1a7) => (173, 0x28b1da5b852fda4a) => (174, 0xc11c1867c65f9e95)
    => (175, 0x7563ef7d5f063e89) => (176, 0x45895f9c4f23ba26) => (177, 0x318c68c496b8116c)
    => (178, 0x396d0af635c3445b) => (179, 0x5d2b46312c4552f2) => (182, 0xa6a51405316a8c4a) ∷
    row 1890 19 with (1, 0x207ffffe8) with (64, 0x200af2209) with (at, 0x207ffff30)
    => (pc, 0x200af2208) => (170, 0xc61be00a43d63346) => (171, 0xa1067a85ef187a74)
    => (172, 0x97ceae0af1d19d4b) => (173, 0xaa747a994c019bcb) => (174, 0xd8f7e030fda875f4)
    => (175, 0x2358ded206c62bc6) => (176, 0x8997767c675abd41) => (177, 0xbb3a7301f662a64)
    => (178, 0xa9ad70ed2ee87331) => (179, 0x6384d3b395e197a6) => (180, 0x3939cf83545197c4)
    => (181, 0x2acc645c6a38738b) => (182, 0x383c923ed7962afa) => (185, 0x37d9e9cb7821f225) ∷
    row 1891 20 with (1, 0xa1) with (64, 0xa2c5f7) with (at, 1) => (pc, 0xa2c5f4)
    => (168, 0x1da2cb905aa1e95a) => (169, 0x5c99d492d436b509) => (170, 0xb76e769ea5425c61)
    => (171, 0x2e20b1b3cdc4df62) => (172, 0xc0b085d24dbe3e0c) => (173, 0x6f1df2fa252e785f)
    => (174, 0x3968f92b54158e5b) => (175, 0x1f919865da737fff) => (176, 0x4c5c3f41b8484d4c)
    => (177, 0xbc32db8ed93f643) => (178, 0xe707b5397a567ae1) => (179, 0xde29d5c35e8fdb29)
    => (182, 0xe1da1089a823027) ∷
    row 1892 21 with (1, 0x4eb07af) with (64, 0x400c8c88c) => (pc, 0x400c8c88c)
    => (169, 0x29526b039244a4ee) => (170, 0x6dd8ffb6da2bf51e) => (171, 0xce3d2d73798a20f7)
    => (172, 0x4a7ef439705f2879) => (173, 0xe29e5408beab0ba4) => (174, 0x969b4ce1646dca78)
    => (175, 0x6675dec361a764f5) => (176, 0x522e09aeb657db1a) => (177, 0x59c3cda3627f2ce9)
    => (178, 0x7d372aa1661d5a60) => (179, 0xbc8820a8c1326380) => (182, 0xabb2e7bc988b4651) ∷
    row 1893 22 with (1, 0x4a8192a) with (64, 0x400d04aa8) => (pc, 0x400d04aa8)
    => (170, 0x87336ca9eabe6602) => (171, 0x3935a0aa00f83ab4) => (172, 0x9f295a176ea8eb0e)
    => (173, 0x20faac8e33d07711) => (174, 0xbea9980e506edebd) => (175, 0x78361c97c4842212)
    => (176, 0x4da03a2a9010410f) => (177, 0x3ee7f0c6b3133bb6) => (178, 0x4c0d406c2d8d1205)
    => (179, 0x7510291aff7dc3fd) => (182, 0x949163e7723d34a1) ∷
    row 1894 23 with (1, 0x7ffffe8) with (64, 0x1d7b13c) with (at, 0x7ffff30) => (pc, 0x1d7b13c)
    => (174, 0xe27db091640f2c97) => (175, 0x90a03f7c489b85ca) => (176, 0x5aa06770849ebaa5)
    => (177, 0x407e286e1818cb29) => (178, 0x423982750309b756) => (179, 0x5fd2758545717f2c)
    => (180, 0x9949019edf5022aa) => (181, 0xee9d26c1d0a5a1d2) => (182, 0x5fcee4ee1971fca2)
    => (185, 0x3e871b892797fb1a) ∷
    row 1895 24 with (1, 0x4cb1447) with (64, 0x14bb07) => (pc, 0x14bb04)
    => (172, 0xf7e56a47fe36f8ad) => (173, 0xab9784e3b115d660) => (174, 0x7b273888bb6b8fbd)
    => (175, 0x669485371d3824c2) => (176, 0x6ddf6aeed67b9570) => (177, 0x9107e9afe735e1c6)
    => (178, 0xd00e017a4f6709c6) => (179, 0x2af1b24e0f0f0d6e) => (182, 0x3a005ca1b89b99b9) ∷
    row 1896 25 with (1, 0x430fde9) with (64, 0x4008a5a56) => (pc, 0x4008a5a54)
    => (173, 0xf19db0b3b935ca43) => (174, 0x95c39d63a672c77) => (175, 0x3cf85c02130f6a55)
    => (176, 0x8c721737432e83db) => (177, 0xf7c96b75cac4790a) => (178, 0x7efe58bda9d149e1)
    => (179, 0x2210df0ee054f662) => (182, 0x55953125481080) ∷
    row 1897 26 with (1, 0x4042484ed) with (64, 0x1acceb2) => (pc, 0x1acceb0)
    => (174, 0x56a00ede950ba159) => (175, 0x73ee23b1e48f880f) => (176, 0xad19d18e8b8a4a6d)
    => (177, 0x223187489fbe874) => (178, 0x7309f863dfe46224) => (179, 0xffce715c8d43b77d)
    => (182, 0xfe6a8b376d9d5f6e) ∷
    row 1898 27 with (1, 0x207ffffe8) with (64, 0x200e0b49b) with (at, 0x207ffff30)
    => (pc, 0x200e0b498) => (178, 0x75bfe2d891b87df0) => (179, 0x989d835caf8ee926)
    => (180, 0xd758bcea24dc3006) => (181, 0x31f18f80f1a0528e) => (182, 0xa867fb2115db50bf)
    => (185, 0xd75a88b4919b8683) ∷
    row 1899 28 with (1, 0x20409c073) with (64, 0x201d093ee) => (pc, 0x201d093ec)
    => (176, 0xb4f6e09af3c6007) => (177, 0x92397d149b654fbf) => (178, 0x35012528df051b1f)
    => (179, 0xf3a666467a1bc228) => (182, 0xe1cfefa8914285bf) ∷
    row 1900 29 with (1, 0x4a61f9f) with (64, 0x152f39e) => (pc, 0x152f39c)
    => (177, 0x7a09e677ed97479f) => (178, 0x6838133a812bbd7) => (179, 0xaedab4f8ba050bb8)
    => (182, 0xcd5ab2136c925d23) ∷
    row 1901 30 with (1, 0x204d01c2d) with (64, 0x2003234c6) => (pc, 0x2003234c4)
    => (178, 0x15f387c94cc934b7) => (179, 0x679910bd5972d70) => (182, 0xe43089f5238b0cae) ∷
    row 1902 31 with (1, 0x407ffffe8) with (64, 0x2019da5ea) with (at, 0x407ffff30)
    => (pc, 0x2019da5e8) => (182, 0xd448a4abccd2274f) => (185, 0xe256114db62c9461) ∷
    [])

unfoldable pub ppc64_restgpr0 : Functions
ppc64_restgpr0 =
    -- _restgpr0_N
    functions
    (0xe9c1ff70 ∷ 0xe9e1ff78 ∷ 0xea01ff80 ∷ 0xea21ff88 ∷ 0xea41ff90 ∷ 0xea61ff98 ∷ 0xea81ffa0 ∷
    0xeaa1ffa8 ∷ 0xeac1ffb0 ∷ 0xeae1ffb8 ∷ 0xeb01ffc0 ∷ 0xeb21ffc8 ∷ 0xeb41ffd0 ∷ 0xeb61ffd8 ∷
    0xeb81ffe0 ∷ 0xeba1ffe8 ∷ 0xebc1fff0 ∷ 0xebe1fff8 ∷ 0xe8010010 ∷ 0x7c0803a6 ∷ 0x4e800020 ∷
    []) (
    row 1903 14 with (1, 0x4cced71) with (182, 0xa761f5) => (0, 0xa761f5)
    => (14, 0x5c12556e3e29b5de) => (15, 0x62c8844ecdf84357) => (16, 0x855c4c38b53dac79)
    => (17, 0xc3cdad2bf3f9f144) => (18, 0x7eecc6648a2d11b7) => (19, 0x969c769477d70dd4)
    => (20, 0xca29bfcdbcf7e599) => (21, 0x1994a210598f9908) => (22, 0x84dd1d5c4d9e281f)
    => (23, 0xc0331b1992392de) => (24, 0xaf06df103c1fd947) => (25, 0x6de825783692fb59)
    => (26, 0x48a704e9887cf913) => (27, 0x3f437d6431ddd276) => (28, 0x51bd8ee832b58783)
    => (29, 0x801539758b041838) => (30, 0xca4a7d0c3ac98495) => (31, 0x305d59ac4205cc9c)
    => (64, 0xa761f5) => (pc, 0xa761f4) ∷
    row 1904 15 with (1, 0x7ffffe8) with (at, 0x7ffff30) with (185, 0x200c91ac8) => (0, 0x200c91ac8)
    => (15, 0x47d21e05e68fc5e2) => (16, 0xa7b0a3b34b156ad6) => (17, 0x236cc26a0711eb74)
    => (18, 0xbb067a2a1a8547ba) => (19, 0x6e7dcaf3856f7fa9) => (20, 0x3dd2b4c647d09342)
    => (21, 0x290537a261a88282) => (22, 0x30155387d2f74d6c) => (23, 0x530308769bbcf3ff)
    => (24, 0x91ce566ebbf9763a) => (25, 0xec773d7033acd41e) => (26, 0x62fdbd7b02d70dac)
    => (27, 0xf561d68f297822e1) => (28, 0xa3a388aca79013c0) => (29, 0x6dc2d3d37d1ee048)
    => (30, 0xae5bb6b5aa248878) => (31, 0x51b951192ea10c52) => (64, 0x200c91ac8)
    => (pc, 0x200c91ac8) ∷
    row 1905 16 with (1, 0x20400343e) with (182, 0x1bae899) => (0, 0x1bae899)
    => (16, 0xfcdb66cc6e3d4994) => (17, 0xeb0ad0e9ab0e00f) => (18, 0x3c638c5a1e9b5233)
    => (19, 0x85f404aef9fca000) => (20, 0xeb62160d2cd4c976) => (21, 0x6cadc074b723ce94)
    => (22, 0x9d703e598e9af5c) => (23, 0xc2dde05fd2266bcc) => (24, 0x97c255e362da03e5)
    => (25, 0x888464704b0477a7) => (26, 0x95240c068aa5c712) => (27, 0xbda14ca621bdf225)
    => (28, 0x1fc264f104cf8e2) => (29, 0x623499015652db47) => (30, 0xde4aa4bcf3cf9955)
    => (31, 0x763e4981e8c3330c) => (64, 0x1bae899) => (pc, 0x1bae898) ∷
    row 1906 17 with (1, 0x404ee43b8) with (182, 0x69a97a) => (0, 0x69a97a)
    => (17, 0x9bc7a02037899bb0) => (18, 0x11a954e9324fb6ac) => (19, 0xa368a2bb848cad51)
    => (20, 0x510589972e407f9f) => (21, 0x1a80097c2f6b2d96) => (22, 0xffd8226a880cb735)
    => (23, 0x10dd46238251c7e) => (24, 0x1e211f633fb45d6f) => (25, 0x5712036d9eba7a09)
    => (26, 0xabe080815537724c) => (27, 0xb4503a54632b4637) => (28, 0xe25d06a4c895f5cc)
    => (29, 0x2c476bfe85778109) => (30, 0x920f6a6199cfe7f0) => (31, 0x13b501ce059f2a7f)
    => (64, 0x69a97a) => (pc, 0x69a978) ∷
    row 1907 18 with (1, 0x4bf45eb) with (182, 0x401b02bcb) => (0, 0x401b02bcb)
    => (18, 0x18d5882b21acf34c) => (19, 0x9446c8a4eac592ca) => (20, 0x2b95a2280b550def)
    => (21, 0xdec214b4835b64be) => (22, 0xadcc204a52d89736) => (23, 0x98b3c4e979cca556)
    => (24, 0x9f790291f8378f20) => (25, 0xc21bd943ce195492) => (26, 0x9c48fefb71f5ad)
    => (27, 0x5afa51c380417271) => (28, 0xd135f3915c87cade) => (29, 0x634f2e689044fef3)
    => (30, 0x114602491b790eb2) => (31, 0xdb1a6f32fe23fa19) => (64, 0x401b02bcb)
    => (pc, 0x401b02bc8) ∷
    row 1908 19 with (1, 0x7ffffe8) with (at, 0x7ffff30) with (185, 0xc509e2) => (0, 0xc509e2)
    => (19, 0x269c15a0f94d4f5e) => (20, 0xfb35ace7971d0657) => (21, 0xebacdd378c6398f8)
    => (22, 0xf801a690d9210742) => (23, 0x203408f37d555136) => (24, 0x6444045f790076d2)
    => (25, 0xc43198d4cc227817) => (26, 0x3ffcc65376bb5504) => (27, 0xd7a58cdb78cb0d9b)
    => (28, 0x8b2bec6cd251a1da) => (29, 0x5a8fe507834f11c3) => (30, 0x45d176ab8bc35d54)
    => (31, 0x4cf0a158ebae848e) => (64, 0xc509e2) => (pc, 0xc509e0) ∷
    row 1909 20 with (1, 0xa1) with (at, 1) with (182, 0x816d9c) => (0, 0x816d9c)
    => (20, 0x8ac4641e5878b306) => (21, 0x6fd19ecfbe365b85) => (22, 0x70bc728a7b6adfad)
    => (23, 0x8d84df4e90163f7e) => (24, 0xc62ae51bfc387af8) => (25, 0x1aae83f2bfd1921a)
    => (26, 0x8b0fbbd2dae184e6) => (27, 0x174e8cbc4d68535a) => (28, 0xbf6af6af1765fd77)
    => (29, 0x8364f9ab38da833d) => (30, 0x633c95b0b1c5e4ab) => (31, 0x5ef1cabf822821c3)
    => (64, 0x816d9c) => (pc, 0x816d9c) ∷
    row 1910 21 with (1, 0x2042ea77a) with (182, 0x200de221c) => (0, 0x200de221c)
    => (21, 0x118a666ca5211b24) => (22, 0xfc272cced9314824) => (23, 0x2a18c3a64b850cd)
    => (24, 0x24f984af47b6351f) => (25, 0x632f162d822af519) => (26, 0xbd4240b5141690bd)
    => (27, 0x33330445fd790809) => (28, 0xc50160e03e525afe) => (29, 0x72ad5683d6a2899c)
    => (30, 0x3c36e530c66993e3) => (31, 0x219e0ce70da779d3) => (64, 0x200de221c)
    => (pc, 0x200de221c) ∷
    row 1911 22 with (1, 0x4048b748b) with (182, 0x400e9073e) => (0, 0x400e9073e)
    => (22, 0x52a7faa612a088c2) => (23, 0xa1512f8f15033a43) => (24, 0xbd7fd816edcc76d)
    => (25, 0x923c647d202d3040) => (26, 0x347e648228f474bb) => (27, 0xf29dfd90893294e0)
    => (28, 0xcc9b2fa840e790ad) => (29, 0xc275fac950136823) => (30, 0xd42e5ef3b6b61b42)
    => (31, 0xaf26468574cfaa0a) => (64, 0x400e9073e) => (pc, 0x400e9073c) ∷
    row 1912 23 with (1, 0x207ffffe8) with (at, 0x207ffff30) with (185, 0x1cd5eca) => (0, 0x1cd5eca)
    => (23, 0x794bae52197b30e1) => (24, 0x211d3a07f094f9de) => (25, 0xe4cc5ec71f259e83)
    => (26, 0xc4591c8fa52d1ed1) => (27, 0xbfc3736182ab7ac9) => (28, 0xd70b633cb7a0b269)
    => (29, 0xa30ec21440cc5b1) => (30, 0x59340e0f27efb4a3) => (31, 0xc414c90663497f3e)
    => (64, 0x1cd5eca) => (pc, 0x1cd5ec8) ∷
    row 1913 24 with (1, 0x40498917f) with (182, 0x201726b10) => (0, 0x201726b10)
    => (24, 0x70804bc25024747f) => (25, 0x28c57ae2ef2c2f02) => (26, 0x88f4ef98e5aac52e)
    => (27, 0x1a786df633a03703) => (28, 0xc7d9855cd90c8480) => (29, 0x911835ccd5efada7)
    => (30, 0x76347f462a49b276) => (31, 0x772e61c8d61a92ee) => (64, 0x201726b10)
    => (pc, 0x201726b10) ∷
    row 1914 25 with (1, 0x404f38c0d) with (182, 0x200ee4db2) => (0, 0x200ee4db2)
    => (25, 0x967b96f92028f29e) => (26, 0x545051ca8d8331a2) => (27, 0x2e02a5a552544c4f)
    => (28, 0x239292896e9c42a5) => (29, 0x35001876e25b14a4) => (30, 0x624b376dad90c24b)
    => (31, 0xab73ef6dd03d4b9b) => (64, 0x200ee4db2) => (pc, 0x200ee4db0) ∷
    row 1915 26 with (1, 0x404dc23fd) with (182, 0x401193075) => (0, 0x401193075)
    => (26, 0x769457ff1104763e) => (27, 0x39f89e814cb139c3) => (28, 0x193a7e0cdfd4d8f1)
    => (29, 0x1459f6a1ca6f53c8) => (30, 0x2b5708400c80aa47) => (31, 0x5e31b2e7a608dc70)
    => (64, 0x401193075) => (pc, 0x401193074) ∷
    row 1916 27 with (1, 0x7ffffe8) with (at, 0x7ffff30) with (185, 0x400b0d473) => (0, 0x400b0d473)
    => (27, 0x23ce315547196a6b) => (28, 0x9ed7b17a577d456b) => (29, 0x35becaa8bf57fc15)
    => (30, 0xe8837ce07ea98e67) => (31, 0xb725c8219571fc62) => (64, 0x400b0d473)
    => (pc, 0x400b0d470) ∷
    row 1917 28 with (1, 0x404ab815a) with (182, 0x511bfc) => (0, 0x511bfc)
    => (28, 0x8996ac9855408dfe) => (29, 0xb696ed522d925a85) => (30, 0xff74c7155d5b02b5)
    => (31, 0x643039e1e49a868e) => (64, 0x511bfc) => (pc, 0x511bfc) ∷
    row 1918 29 with (1, 0x43cf172) with (182, 0x4de643) => (0, 0x4de643)
    => (29, 0x733fb1d7a8a1221f) => (30, 0xa5f7544c4f457327) => (31, 0xf464b9c04d609fd8)
    => (64, 0x4de643) => (pc, 0x4de640) ∷
    row 1919 30 with (1, 0x204b15441) with (182, 0x201638efe) => (0, 0x201638efe)
    => (30, 0xf28dbbc61cd8bbc1) => (31, 0x8929f6b791cf914a) => (64, 0x201638efe)
    => (pc, 0x201638efc) ∷
    row 1920 31 with (1, 0x7ffffe8) with (at, 0x7ffff30) with (185, 0x201ded105) => (0, 0x201ded105)
    => (31, 0x54155a868227fbfb) => (64, 0x201ded105) => (pc, 0x201ded104) ∷
    [])

unfoldable pub ppc64_savegpr1 : Functions
ppc64_savegpr1 =
    -- _savegpr1_N
    functions
    (0xf9ccff70 ∷ 0xf9ecff78 ∷ 0xfa0cff80 ∷ 0xfa2cff88 ∷ 0xfa4cff90 ∷ 0xfa6cff98 ∷ 0xfa8cffa0 ∷
    0xfaacffa8 ∷ 0xfaccffb0 ∷ 0xfaecffb8 ∷ 0xfb0cffc0 ∷ 0xfb2cffc8 ∷ 0xfb4cffd0 ∷ 0xfb6cffd8 ∷
    0xfb8cffe0 ∷ 0xfbacffe8 ∷ 0xfbccfff0 ∷ 0xfbecfff8 ∷ 0x4e800020 ∷ []) (
    row 1921 14 with (12, 0x404ed9cb1) with (64, 0x20112cbf9) => (pc, 0x20112cbf8)
    => (162, 0xd3435837b33e0e53) => (163, 0x9a3abf800dc77d62) => (164, 0x7d0fbfd1bfc7c819)
    => (165, 0x7bc2592cc93eee7a) => (166, 0xcf62c2852a2cf083) => (167, 0xa753ab1ce291ce36)
    => (168, 0x9b222cbdf26d8791) => (169, 0xaace476859c01c95) => (170, 0xd657fb1c18898d42)
    => (171, 0x1dbf47d92ec9d997) => (172, 0x81042d9f9c810196) => (173, 0x26ac6f61af053d)
    => (174, 0x9b26c4487e53e48e) => (175, 0x5204752af26f9f87) => (176, 0x24bfbf16be023628)
    => (177, 0x1358a20be10ba873) => (178, 0x1dcf1e0a5b8bf667) => (179, 0x442333122d832003) ∷
    row 1922 15 with (12, 0x207ffffe8) with (64, 0x400c6c4bc) with (at, 0x207ffff30)
    => (pc, 0x400c6c4bc) => (166, 0xa1383f1c078ccd0) => (167, 0xd69a76eae954c060)
    => (168, 0xbeff02ed69a78f98) => (169, 0xc34127f941713a7a) => (170, 0xe360e60e70b1c104)
    => (171, 0x1f5e3d2cf7692338) => (172, 0x77392d54d5976114) => (173, 0xeaf1b6860b3c7a99)
    => (174, 0x7a87d8c098586fc7) => (175, 0x25fb94047ceb409d) => (176, 0xed4ce851b8f4ed1d)
    => (177, 0xd07bd5a84c757545) => (178, 0xcf885c08376cd916) => (179, 0xea727b7179db1891)
    => (180, 0x213a33e413c033b3) => (181, 0x73df8560051c2a7f) => (182, 0xe2626fe54deefcf4) ∷
    row 1923 16 with (12, 0x404605aab) with (64, 0x200d38f8e) => (pc, 0x200d38f8c)
    => (164, 0xfb01257aee8a90cd) => (165, 0xcd17a424e5b908de) => (166, 0xbb0bbbd8345e5c98)
    => (167, 0xc4dd6c94da7a8bfa) => (168, 0xea8cb65ad80d9706) => (169, 0x2c19992a2d177dba)
    => (170, 0x89841502d9984017) => (171, 0x2cc29e4dd8fde1d) => (172, 0x97f1d7d038fe57cc)
    => (173, 0x48f51ec4ebe3ad24) => (174, 0x15d5fec2f63fde24) => (175, 0xfe9477ca5812eace)
    => (176, 0x33089db115cd320) => (177, 0x23aa34f5221d971b) => (178, 0x600179188a5536bf)
    => (179, 0xb83656454a03b20c) ∷
    row 1924 17 with (12, 0x404437b11) with (64, 0x2018056b0) => (pc, 0x2018056b0)
    => (165, 0x8527a5093d735a4b) => (166, 0xbb4a923a02f456dd) => (167, 0xd4b18741fec2f17)
    => (168, 0x7b2937b7945ae2fb) => (169, 0x4e4f00460407288) => (170, 0xaa7e415a839cddbd)
    => (171, 0x6bf52bb9fe70249b) => (172, 0x4949af22d0ba4722) => (173, 0x427bcb94fa7b4552)
    => (174, 0x578b81107bb31f2b) => (175, 0x8878cf955461d4ac) => (176, 0xe6ca8fbb848765d6)
    => (177, 0xf0f62d7d0c23d2aa) => (178, 0x16ff6447eb371b26) => (179, 0x58e6341c21c13f4b) ∷
    row 1925 18 with (12, 0x4b438da) with (64, 0xe956da) => (pc, 0xe956d8)
    => (166, 0xc5afeb06ad332949) => (167, 0x16263e84106aa5c) => (168, 0x58f275d32c510718)
    => (169, 0xcc6020c76f123f7c) => (170, 0x5bab64c5094a538a) => (171, 0x6d441cbfaf94340)
    => (172, 0xcddab7dc441f0e9f) => (173, 0xb0bec6f5e4bbb5a7) => (174, 0xaf806f18dccf3858)
    => (175, 0xca1fb0452c5996b2) => (176, 0x9c8a7ad35ad0b4) => (177, 0x52f6fdb9d1d2e660)
    => (178, 0xc12f0a0227c1d7b4) => (179, 0x4b44af53d527a4b1) ∷
    row 1926 19 with (12, 0x407ffffe8) with (64, 0x1569ba) with (at, 0x407ffff30) => (pc, 0x1569b8)
    => (170, 0x563080b53dc9fdc8) => (171, 0xf5ef681d9ff0035c) => (172, 0xb18be88f598ce498)
    => (173, 0xd7b47fa66aa0a17e) => (174, 0x6c8f4f54d32b3a0c) => (175, 0x1d47b80c932cae44)
    => (176, 0xe9ddb9cdaaa4fe24) => (177, 0xd2515498199429ad) => (178, 0xd6a2886bdffa30df)
    => (179, 0xf6d15548fdd713b9) => (180, 0x32ddbb2f732ad23d) => (181, 0x8ac7ba1f3ff56c69)
    => (182, 0xfe8f52186436e23e) ∷
    row 1927 20 with (12, 0xa1) with (64, 0x401e86354) with (at, 1) => (pc, 0x401e86354)
    => (168, 0xe6536b26ef37d7c7) => (169, 0x8ba1de401fb061dc) => (170, 0x4ccdea62a79fc799)
    => (171, 0x29d78f8e87060900) => (172, 0x22becdc3bde32610) => (173, 0x3783a5024c371ec8)
    => (174, 0x6826154a3201f329) => (175, 0xb4a61e9b6f43a333) => (176, 0x1d03c0f603fc2ee6)
    => (177, 0xa13efc59f02b9641) => (178, 0x4157d0c733d1d946) => (179, 0xfd4e3e3dceeef7f3) ∷
    row 1928 21 with (12, 0x20402cd2c) with (64, 0x2011157b8) => (pc, 0x2011157b8)
    => (169, 0x3093cb67c17cb746) => (170, 0xdb71ca31c047c5dc) => (171, 0xa22d62051689b01b)
    => (172, 0x84c692e1c4427603) => (173, 0x833d5cc7c9721793) => (174, 0x9d91bfb7261894cc)
    => (175, 0xd3c3bbafda35edae) => (176, 0x25d350b1e5ca2239) => (177, 0x93c07ebd48d5326d)
    => (178, 0x1d8b45d203571e4a) => (179, 0xc333a5f0154fe5cf) ∷
    row 1929 22 with (12, 0x204aa007e) with (64, 0x201dc17b3) => (pc, 0x201dc17b0)
    => (170, 0x5ceba5dbb4989c46) => (171, 0x6bd6132c81b62f5d) => (172, 0x969e1986a64a9e1d)
    => (173, 0xdd43b8ea2255e886) => (174, 0x3fc6f156f5d80e97) => (175, 0xbe27c2cd20d11051)
    => (176, 0x58662d4ca340edb4) => (177, 0xe8230d57d27a6c0) => (178, 0xe07bcd67ae853b75)
    => (179, 0xce5303033759abd3) ∷
    row 1930 23 with (12, 0x407ffffe8) with (64, 0x20169e842) with (at, 0x407ffff30)
    => (pc, 0x20169e840) => (174, 0xf6c6aa90c88b86c7) => (175, 0xb40a39263fb9e5f)
    => (176, 0x3b98359d56e2919f) => (177, 0x87cd60b1a1406089) => (178, 0xefe024cf43150b1b)
    => (179, 0x73d081f63c609157) => (180, 0x139e78268d22f33b) => (181, 0xcf4a0760355c30c8)
    => (182, 0xa6d32fa3350c49fe) ∷
    row 1931 24 with (12, 0x204f6949f) with (64, 0x4016e1874) => (pc, 0x4016e1874)
    => (172, 0x29789b24fd5576c7) => (173, 0xa1ff02ad671812e0) => (174, 0x9aafc78328518aa2)
    => (175, 0xec747e484101de0d) => (176, 0x5a16ce16b1290d20) => (177, 0xe396b6ee78c717dc)
    => (178, 0x88f438cf97dbfe42) => (179, 0x4a2f53ba0e67c04f) ∷
    row 1932 25 with (12, 0x40446a018) with (64, 0x2017563aa) => (pc, 0x2017563a8)
    => (173, 0x12ee444e52f66c49) => (174, 0x910437878b0b8ce3) => (175, 0x2af7c3ca1a978925)
    => (176, 0xe0c8e916019a6111) => (177, 0xb277a76b401414a5) => (178, 0xa003fec9d604a3e3)
    => (179, 0xa96def31c36c0ec9) ∷
    row 1933 26 with (12, 0x404799e49) with (64, 0x14b37e1) => (pc, 0x14b37e0)
    => (174, 0xb6816346c96e674a) => (175, 0x3a26e230cfd60c65) => (176, 0xd9a9fa242db48d29)
    => (177, 0x950aab20e309e995) => (178, 0x6c48f526efd621ab) => (179, 0x5f64d83654193569) ∷
    row 1934 27 with (12, 0x207ffffe8) with (64, 0x1398ac8) with (at, 0x207ffff30)
    => (pc, 0x1398ac8) => (178, 0x850a98a060bd67cc) => (179, 0x6cbc861135779168)
    => (180, 0x704c0c8b61a896ad) => (181, 0x8fb92c0ee550779b) => (182, 0xcb03e49bc06f3431) ∷
    row 1935 28 with (12, 0x4331d7e) with (64, 0x201c28754) => (pc, 0x201c28754)
    => (176, 0x78385c0d18e36dcf) => (177, 0x6579d52ebbf01bec) => (178, 0x6e98e759b673a5b1)
    => (179, 0x9395928e086e0b20) ∷
    row 1936 29 with (12, 0x4b99e81) with (64, 0x4009a2ef5) => (pc, 0x4009a2ef4)
    => (177, 0x4d1ba786f1e07952) => (178, 0x18549a1b633fabf0) => (179, 0x270337f72c15ba36) ∷
    row 1937 30 with (12, 0x404cdbce6) with (64, 0x201d3ed4e) => (pc, 0x201d3ed4c)
    => (178, 0x8fe40f67ebb48a55) => (179, 0xe6c182c12b664174) ∷
    row 1938 31 with (12, 0x207ffffe8) with (64, 0x4011e315a) with (at, 0x207ffff30)
    => (pc, 0x4011e3158) => (182, 0x8cc9ed18065fa0d9) ∷
    [])

unfoldable pub ppc64_restgpr1 : Functions
ppc64_restgpr1 =
    -- _restgpr1_N
    functions
    (0xe9ccff70 ∷ 0xe9ecff78 ∷ 0xea0cff80 ∷ 0xea2cff88 ∷ 0xea4cff90 ∷ 0xea6cff98 ∷ 0xea8cffa0 ∷
    0xeaacffa8 ∷ 0xeaccffb0 ∷ 0xeaecffb8 ∷ 0xeb0cffc0 ∷ 0xeb2cffc8 ∷ 0xeb4cffd0 ∷ 0xeb6cffd8 ∷
    0xeb8cffe0 ∷ 0xebacffe8 ∷ 0xebccfff0 ∷ 0xebecfff8 ∷ 0x4e800020 ∷ []) (
    row 1939 14 with (12, 0x4f4272e) with (64, 0x166735e) => (14, 0x9bd5f630f20002e0)
    => (15, 0x8e38f2838b24ebf) => (16, 0x91cec128d6db7647) => (17, 0x36978c32cc7b7977)
    => (18, 0xf73df04619925850) => (19, 0xd3c1ed62be2012d2) => (20, 0xcc238388ba24a8fd)
    => (21, 0xe062b2b80da01ad1) => (22, 0x107f7af0b892684d) => (23, 0x5c79dc32bafb9173)
    => (24, 0xc451d67e14db9641) => (25, 0x480769d2c63276b8) => (26, 0xe79a9630cf0032d8)
    => (27, 0x2191694e2f44caa1) => (28, 0x9a62e4e8e7003e13) => (29, 0x2f11f98cf6328d2d)
    => (30, 0xdf9ea73a5cdbb7f0) => (31, 0xac08edf11afbbe5c) => (pc, 0x166735c) ∷
    row 1940 15 with (12, 0x407ffffe8) with (64, 0x401229d65) with (at, 0x407ffff30)
    => (15, 0xf92cbdda59b37200) => (16, 0xbf62ad9e751cd55a) => (17, 0xa176366be7fd145d)
    => (18, 0x9f675842b2542f09) => (19, 0xb9361322d422255e) => (20, 0xeee2670c4d66f75c)
    => (21, 0x406c53ff1e22a502) => (22, 0xadd3d9fb46552e51) => (23, 0x3718f900c5fe9349)
    => (24, 0xdc3bb10f9d1ed3ea) => (25, 0x9d3c0227cbb5f034) => (26, 0x7a19ec4951c3e827)
    => (27, 0x72d56f742f48bbc2) => (28, 0x876e8ba864446b07) => (29, 0xb7e540e5f0b6f5f4)
    => (30, 0x4398f2cd4a05c8a) => (31, 0x6c6b767d10009ec9) => (pc, 0x401229d64) ∷
    row 1941 16 with (12, 0x2045106ff) with (64, 0x1364ad4) => (16, 0x25a268425757de6d)
    => (17, 0xfc4bfb713aaf334e) => (18, 0xeed327a9757d63d8) => (19, 0xfd37eceb07c2700a)
    => (20, 0x277a4b35f17e57e5) => (21, 0x2947f54432b11b69) => (22, 0x2cc8a2cbcb5aba96)
    => (23, 0x4c26e95cbb7b356c) => (24, 0x8762c8f703128bea) => (25, 0xde7c419aa220be12)
    => (26, 0x5173534798a5cbe2) => (27, 0xe047fdfde6a1b55b) => (28, 0x8afa41bd8c147a7d)
    => (29, 0x518a1e8688fe1b48) => (30, 0x33f79458dd5e97bb) => (31, 0x3242a3348935efd8)
    => (pc, 0x1364ad4) ∷
    row 1942 17 with (12, 0x4293851) with (64, 0x400c0df54) => (17, 0x27239b4bbb465475)
    => (18, 0x35cba2b6cf02dd6) => (19, 0xfb7372147610e2e1) => (20, 0xf67c306d6a87394)
    => (21, 0x3f39ad028eb6dff0) => (22, 0x8ae930079e3c27f5) => (23, 0xf2764c1605384ba3)
    => (24, 0x75e1012dc3ab4afa) => (25, 0x15294f4ed99525f9) => (26, 0xd04f367946f5dca2)
    => (27, 0xa752b6ad0bcd6ef3) => (28, 0x9a33cfea281bdced) => (29, 0xa8f282309be12690)
    => (30, 0xd38ecd80671d4bdc) => (31, 0x1a08b1d989d04cd1) => (pc, 0x400c0df54) ∷
    row 1943 18 with (12, 0x40439b1af) with (64, 0x2010aa839) => (18, 0xe2c24424400bcffc)
    => (19, 0xc48aeeb4c0082ddf) => (20, 0xc231324e977b676a) => (21, 0xdbb50ef1c6657c9f)
    => (22, 0x1116849e4cc66d7c) => (23, 0x625593542a9e3a02) => (24, 0xcf723b135fece231)
    => (25, 0x586c7bdbecb26608) => (26, 0xfd4455add0eec589) => (27, 0xbdf9c8890ca200b2)
    => (28, 0x9a8cd46d9fcc1785) => (29, 0x92fd795b8a6d0a00) => (30, 0xa74bb752cc84d824)
    => (31, 0xd7778e53661381f0) => (pc, 0x2010aa838) ∷
    row 1944 19 with (12, 0x7ffffe8) with (64, 0x7f082b) with (at, 0x7ffff30)
    => (19, 0x7b9782c7d6f98b2a) => (20, 0x150566fb2bad0088) => (21, 0xca50e437d7d7518f)
    => (22, 0x9b79fa7ddb787e3f) => (23, 0x8880a9cd36908697) => (24, 0x9164f225e91f6a99)
    => (25, 0xb626d387f3252a43) => (26, 0xf6c64df354a1c597) => (27, 0x534361680d953c93)
    => (28, 0x5fc262441dff8f38) => (29, 0x957dc4f585e0bd85) => (30, 0xe716c0b04538c77c)
    => (31, 0x548d55745c07ad1b) => (pc, 0x7f0828) ∷
    row 1945 20 with (12, 0xa1) with (64, 0x201df586c) with (at, 1) => (20, 0x61b8b9b2ac1bd78d)
    => (21, 0xad1d5e7ac8bd3e71) => (22, 0x145f9c4c3cd580ff) => (23, 0x977f732708649f35)
    => (24, 0x367ce30b2b6a9914) => (25, 0xf157ebf8a5e76e9c) => (26, 0xc8108def77db1fcd)
    => (27, 0xbaa6c8efa145aca7) => (28, 0xc91a9cf922271529) => (29, 0xf36c0a0bfa7f5955)
    => (30, 0x399b10282a4e7929) => (31, 0x9ba7af4db19474a6) => (pc, 0x201df586c) ∷
    row 1946 21 with (12, 0x204bcce1a) with (64, 0x20046514c) => (21, 0xdbcff81493666395)
    => (22, 0x8b410b637e5a4efb) => (23, 0x568fb7bbc0c5160a) => (24, 0x3dbbfd1d5aa6b8c1)
    => (25, 0x1211d4ea4bff3721) => (26, 0xd27c698894ce912a) => (27, 0xaec497303514c6dc)
    => (28, 0xa6ea5de12cd1d837) => (29, 0xbaedbd9b7c05c53a) => (30, 0xeaceb65f22b08de7)
    => (31, 0x368d482c20d2323c) => (pc, 0x20046514c) ∷
    row 1947 22 with (12, 0x40403bd02) with (64, 0x1d72272) => (22, 0x36a3e9d59b87f51f)
    => (23, 0xeba488d554ce6505) => (24, 0xbc82c0de658bb095) => (25, 0xa93e91f0cdbfd7cd)
    => (26, 0xb1d7fc0c8d6adaae) => (27, 0xd64eff31a48cb938) => (28, 0x16a39b601325736b)
    => (29, 0x72d5d097d9350947) => (30, 0xeae59ed8f6bb7acb) => (31, 0x7ed306236bb8c7f9)
    => (pc, 0x1d72270) ∷
    row 1948 23 with (12, 0x207ffffe8) with (64, 0x200de8d19) with (at, 0x207ffff30)
    => (23, 0xcede9c9361affc5a) => (24, 0xdd07925fefad83bc) => (25, 0x70e2135d521e6c7)
    => (26, 0x4cf24915120d257b) => (27, 0xaeb409fda66f3fd7) => (28, 0x2c5363ef924835dd)
    => (29, 0xc5d056ead598078b) => (30, 0x7b2ae2ef705eb4e3) => (31, 0x4c6307fd629c3de3)
    => (pc, 0x200de8d18) ∷
    row 1949 24 with (12, 0x4043a72fa) with (64, 0x4002e9a0e) => (24, 0x6183d48d0e5028b2)
    => (25, 0x80206dc4643ba19b) => (26, 0xba9aa005119df62d) => (27, 0x10f26b4f16772667)
    => (28, 0x8327cfa272c7324a) => (29, 0x113accff268e19d6) => (30, 0xbb2b636531cbdd0b)
    => (31, 0x80f992d494807be9) => (pc, 0x4002e9a0c) ∷
    row 1950 25 with (12, 0x4047f8f5f) with (64, 0x401617710) => (25, 0xc60fe09178f6cabd)
    => (26, 0xea3c05799d34c827) => (27, 0x2a45c36b18e9a139) => (28, 0x862d1a65ec1555f4)
    => (29, 0xfdf20a6a16b7e659) => (30, 0x9194937798d15266) => (31, 0x4114b58e72619a1b)
    => (pc, 0x401617710) ∷
    row 1951 26 with (12, 0x404a79e7c) with (64, 0x201bcdd81) => (26, 0xe25879d904747248)
    => (27, 0x6a910d47f704f432) => (28, 0xea739c0410c51c6) => (29, 0xb5853f4be28a8b02)
    => (30, 0x32d9bb00db7f9fe7) => (31, 0xcc0bcfbf2beb9075) => (pc, 0x201bcdd80) ∷
    row 1952 27 with (12, 0x7ffffe8) with (64, 0x94b7dc) with (at, 0x7ffff30)
    => (27, 0x937052ccf9d6c591) => (28, 0x74d13d08c11e5ef7) => (29, 0x720fc04ddfdcd406)
    => (30, 0x8b2bdc9c561224be) => (31, 0xc02591f423be511e) => (pc, 0x94b7dc) ∷
    row 1953 28 with (12, 0x44b3f88) with (64, 0x201eebbc2) => (28, 0x4c350997df4d1df)
    => (29, 0x981afb6a0d2a5ccc) => (30, 0x47503f43f3d6c361) => (31, 0x12631c2731fa059f)
    => (pc, 0x201eebbc0) ∷
    row 1954 29 with (12, 0x404c6d176) with (64, 0x2011fe052) => (29, 0xbce32ea66bf789eb)
    => (30, 0xb44747fdc97f9959) => (31, 0xc788fa5e7e7e846f) => (pc, 0x2011fe050) ∷
    row 1955 30 with (12, 0x2047aab72) with (64, 0xf4eb5c) => (30, 0x7ac1f9627ad14778)
    => (31, 0x77b59e6aa6abdb66) => (pc, 0xf4eb5c) ∷
    row 1956 31 with (12, 0x207ffffe8) with (64, 0x401cfb5ec) with (at, 0x207ffff30)
    => (31, 0x4de097349f6de6ce) => (pc, 0x401cfb5ec) ∷
    [])

unfoldable pub ppc64_savefpr : Functions
ppc64_savefpr =
    -- _savefpr_N
    functions
    (0xd9c1ff70 ∷ 0xd9e1ff78 ∷ 0xda01ff80 ∷ 0xda21ff88 ∷ 0xda41ff90 ∷ 0xda61ff98 ∷ 0xda81ffa0 ∷
    0xdaa1ffa8 ∷ 0xdac1ffb0 ∷ 0xdae1ffb8 ∷ 0xdb01ffc0 ∷ 0xdb21ffc8 ∷ 0xdb41ffd0 ∷ 0xdb61ffd8 ∷
    0xdb81ffe0 ∷ 0xdba1ffe8 ∷ 0xdbc1fff0 ∷ 0xdbe1fff8 ∷ 0xf8010010 ∷ 0x4e800020 ∷ []) (
    row 1957 14 with (1, 0x2048b3791) with (64, 0x201968d49) => (pc, 0x201968d48)
    => (162, 0xd602da3c52bcb1bd) => (163, 0x2087e9f05305544c) => (164, 0x86ea92adaac4d285)
    => (165, 0x92ad47459fb2c66) => (166, 0xa748af4460a861f0) => (167, 0x6144231dbecc7323)
    => (168, 0x371d300074675fff) => (169, 0x28d3d5ec81792883) => (170, 0x366814e1e601ccb0)
    => (171, 0x5fd9ece0a2014c87) => (172, 0xa5295de8b577a806) => (173, 0x65667fa2064df2e)
    => (174, 0x83610b14e2c8f1fe) => (175, 0x1c494738fca3e078) => (176, 0xd10f1c666df5aa9a)
    => (177, 0x6be28f9f36be5066) => (178, 0xf9e6b40956fdd1da) => (179, 0xa3c8717cceb42ef7)
    => (182, 0xcee32e569a9507ee) ∷
    row 1958 15 with (1, 0x207ffffe8) with (64, 0x2017ed4d3) with (at, 0x207ffff30)
    => (pc, 0x2017ed4d0) => (166, 0x21f58407c4ea2445) => (167, 0x720a1f6c93854b56)
    => (168, 0xddfc53dab9974e0f) => (169, 0x65cc215237202c71) => (170, 0x97987d30c1fe67c)
    => (171, 0xc904875d38967c30) => (172, 0xa46d1ff0bc83ed8d) => (173, 0x9bb3518d97e83a92)
    => (174, 0xaed71c33cac36341) => (175, 0xddd87fe355156798) => (176, 0x28b77c9c36de4798)
    => (177, 0x8f74125e701e0341) => (178, 0x120e412a00d49a93) => (179, 0xb08608fee9020d8d)
    => (180, 0x6adb69dd28a65c31) => (181, 0x410e63c4bfc1867d) => (182, 0x331ef6b5ae538c72)
    => (185, 0x9478d5af3a25d838) ∷
    row 1959 16 with (1, 0x4278e8f) with (64, 0x2017dc4c3) => (pc, 0x2017dc4c0)
    => (164, 0x8b43c5c257ee9c4e) => (165, 0x3f64cfadf4dc47df) => (166, 0xf6372a2e940cf1a)
    => (167, 0xfb3faea1351c31fd) => (168, 0x2f983a8d86e7089) => (169, 0x2690f1b9d3378abe)
    => (170, 0x6605f8d42577809b) => (171, 0xc8b042fdcf2e5222) => (172, 0xe1639954d05bff51)
    => (173, 0x15f488b529008829) => (174, 0x6663111ed91becab) => (175, 0xd2af3291e0ae2cd4)
    => (176, 0x5ad8ed0e3fb748a7) => (177, 0xfee04093f6374023) => (178, 0xbec52d23042e1347)
    => (179, 0x9a87b2bb699bc215) => (182, 0x72dc867eb55f80a8) ∷
    row 1960 17 with (1, 0x204f4d0cc) with (64, 0x4003bb25b) => (pc, 0x4003bb258)
    => (165, 0x26d114020bca19d7) => (166, 0xe081a99e770a49e9) => (167, 0xb60fd84439c155a5)
    => (168, 0xa77b9ff353ef3d09) => (169, 0xb4c500abc5940016) => (170, 0xddebfa6d8eaf9ecc)
    => (171, 0x22f08d38af42192a) => (172, 0x83d2b90d274b6f32) => (173, 0x927deaf6cba0e2)
    => (174, 0x992fdbd21dc2ae3b) => (175, 0x4daad2c29c30973e) => (176, 0x1e0362bc72155be8)
    => (177, 0xa398bbf9f70fc3c) => (178, 0x124d4dcc24437839) => (179, 0x363ea8e2008ccfde)
    => (182, 0x44d29ec50c420140) ∷
    row 1961 18 with (1, 0x204a505c1) with (64, 0x1036613) => (pc, 0x1036610)
    => (166, 0x7c7bd810e07c9ce0) => (167, 0x3bbbf95e1a0f5174) => (168, 0x16d9b3b4ab18e1b0)
    => (169, 0xdd5071493994d95) => (170, 0x20adf37dd3909523) => (171, 0x4f6478f06afeb85a)
    => (172, 0x99f8976c59e3b73a) => (173, 0x6a4ef1a03f91c2) => (174, 0x82b99f803e1247f4)
    => (175, 0x20e68918335bd9ce) => (176, 0xdaf10bb9801c4751) => (177, 0xb0d927642453907d)
    => (178, 0xa29edc182001b552) => (179, 0xb04229d57326b5cf) => (182, 0x35d114823ecd5a00) ∷
    row 1962 19 with (1, 0x207ffffe8) with (64, 0x200a79397) with (at, 0x207ffff30)
    => (pc, 0x200a79394) => (170, 0x81a15e90d606256a) => (171, 0xa4edee64ddeb5e7f)
    => (172, 0xe41817423d47733c) => (173, 0x3f1fd928f41a63a2) => (174, 0xb605341902642fb1)
    => (175, 0x48c828126824d769) => (176, 0xf768b515255c5aca) => (177, 0xc1e6db213a0ab9d3)
    => (178, 0xa8429a36a62ff486) => (179, 0xaa7bf25569cc0ae1) => (180, 0xc892e37d84defce5)
    => (181, 0x2876daef768ca92) => (182, 0x585990e9c16973e7) => (185, 0xf1ab81b64d018ae6) ∷
    row 1963 20 with (1, 0xa1) with (64, 0x201dd0f31) with (at, 1) => (pc, 0x201dd0f30)
    => (168, 0x26e6c713ec66b375) => (169, 0x4fc2e298c29e710a) => (170, 0x947c9726f04d0a48)
    => (171, 0xf513e4be75727f2f) => (172, 0x7188cb5f520ecfbf) => (173, 0x9db4b098621fbf8)
    => (174, 0xbe0b63bd11ac03da) => (175, 0x8e191579f4ace764) => (176, 0x7a0460402f24a698)
    => (177, 0x81cd440fc1134174) => (178, 0xa573c0e8aa78b7f9) => (179, 0xe4f7d6caeb550a27)
    => (182, 0x17c0d86136de93f4) ∷
    row 1964 21 with (1, 0x40754ef) with (64, 0x401e29259) => (pc, 0x401e29258)
    => (169, 0x326663b4239e46ff) => (170, 0xbf4eedbfc8288916) => (171, 0x681510d4c429a6d5)
    => (172, 0x2cb8ccf317a1a03d) => (173, 0xd3a221ac290754e) => (174, 0x999104bc4f62608)
    => (175, 0x3ecb88341ed2b26b) => (176, 0x1468c5a1d0261a76) => (177, 0x5e39c18d8f05e2b)
    => (178, 0x133c0b9939317d88) => (179, 0x3c721422f0e9788e) => (182, 0xe6360a82fc647529) ∷
    row 1965 22 with (1, 0x44354c3) with (64, 0x635831) => (pc, 0x635830)
    => (170, 0x274670ab7bace00a) => (171, 0xb9be8667ee89a6a2) => (172, 0x6814352db8dd48e2)
    => (173, 0x32477cfcdaa7c6cb) => (174, 0x18585dd553e9205d) => (175, 0x1a46d7b724a15598)
    => (176, 0x3812eaa24cd0667c) => (177, 0x71bc9696cc765308) => (178, 0xc743db94a3931b3e)
    => (179, 0x38a8b99bd226bf1c) => (182, 0x18abd21b9d932e86) ∷
    row 1966 23 with (1, 0x7ffffe8) with (64, 0x401cfa29d) with (at, 0x7ffff30) => (pc, 0x401cfa29c)
    => (174, 0xd643f371f4927e96) => (175, 0x6e4b94df35c1c9ae) => (176, 0x2230cf55ce67f070)
    => (177, 0xf1f3a2d5be84f2da) => (178, 0xdd940f5f0618d0ed) => (179, 0xe51214f1a5238aa9)
    => (180, 0x86db38d9ba5200d) => (181, 0x47a6eb32e99d911b) => (182, 0xa2bdbbe18f0cddd1)
    => (185, 0xf9bbc92b1a6ac009) ∷
    row 1967 24 with (1, 0x404b981e7) with (64, 0x200a885a6) => (pc, 0x200a885a4)
    => (172, 0x7d9ad4d78e4f22a2) => (173, 0x79aee4cb9dd0f23b) => (174, 0x91a08dc904c99d7e)
    => (175, 0xc56fcfcfc3392469) => (176, 0x151caadfd91f86fd) => (177, 0x80a71ef9467cc53a)
    => (178, 0x80f2c1c0b50df1f) => (179, 0xab54d248279bd4ae) => (182, 0x389201b172eb29b4) ∷
    row 1968 25 with (1, 0x4049e59e2) with (64, 0x2008cf30a) => (pc, 0x2008cf308)
    => (173, 0x7c32fc1248e2cc2e) => (174, 0x7dd697b726b72049) => (175, 0x9b57cc655c02500c)
    => (176, 0xd4b69a1ce8c45b78) => (177, 0x29f300ddccfd428d) => (178, 0x9b0d00a808ad054b)
    => (179, 0x2804997b9bd3a3b2) => (182, 0x2c3cbdaea7146b87) ∷
    row 1969 26 with (1, 0x4662496) with (64, 0x4017c280b) => (pc, 0x4017c2808)
    => (174, 0x29e3f398244d7b3b) => (175, 0x8f93fdc3d07453d7) => (176, 0x1121a0f8d412081b)
    => (177, 0xae8cdd372f269808) => (178, 0x67d5b27ee1b2039e) => (179, 0x6f905825ebb44add)
    => (182, 0xeac37122b6e68580) ∷
    row 1970 27 with (1, 0x7ffffe8) with (64, 0x1a64cdf) with (at, 0x7ffff30) => (pc, 0x1a64cdc)
    => (178, 0x7816bf47208f2fc8) => (179, 0xe35655239b088ce5) => (180, 0x6a7384096cf8c5aa)
    => (181, 0xd6e4bf8965fda18) => (182, 0xcc46acf1173dca2f) => (185, 0x7db8e80da26177a1) ∷
    row 1971 28 with (1, 0x4493cce) with (64, 0x4018833ed) => (pc, 0x4018833ec)
    => (176, 0x806700c53da7e9d6) => (177, 0xf13622528673cb74) => (178, 0x7de2dce926b688ba)
    => (179, 0x266d30891e7021a9) => (182, 0x4eda606f698541e9) ∷
    row 1972 29 with (1, 0x204b9dfa8) with (64, 0x201f7f9e7) => (pc, 0x201f7f9e4)
    => (177, 0xc9ef3d107b97a964) => (178, 0x9ecacd2492b60f83) => (179, 0x8f83f642014b514a)
    => (182, 0xee3048480c51e458) ∷
    row 1973 30 with (1, 0x2040d753a) with (64, 0x40061361b) => (pc, 0x400613618)
    => (178, 0x21da2302da5e6e73) => (179, 0xfc453ec7bfcf5912) => (182, 0xd1ec85978ac75eef) ∷
    row 1974 31 with (1, 0x207ffffe8) with (64, 0x1a4ca7d) with (at, 0x207ffff30) => (pc, 0x1a4ca7c)
    => (182, 0x71bc756e59fc3902) => (185, 0x8084ba5de4e5b1ad) ∷
    [])

unfoldable pub ppc64_restfpr : Functions
ppc64_restfpr =
    -- _restfpr_N
    functions
    (0xc9c1ff70 ∷ 0xc9e1ff78 ∷ 0xca01ff80 ∷ 0xca21ff88 ∷ 0xca41ff90 ∷ 0xca61ff98 ∷ 0xca81ffa0 ∷
    0xcaa1ffa8 ∷ 0xcac1ffb0 ∷ 0xcae1ffb8 ∷ 0xcb01ffc0 ∷ 0xcb21ffc8 ∷ 0xcb41ffd0 ∷ 0xcb61ffd8 ∷
    0xcb81ffe0 ∷ 0xcba1ffe8 ∷ 0xcbc1fff0 ∷ 0xcbe1fff8 ∷ 0xe8010010 ∷ 0x7c0803a6 ∷ 0x4e800020 ∷
    []) (
    row 1975 14 with (1, 0x4045d7885) with (182, 0x401d04a09) => (0, 0x401d04a09)
    => (46, 0xb22530abac9c96b3) => (47, 0x858a33b9aa32a0f7) => (48, 0x74cccfd0ff3f86e4)
    => (49, 0x7fed04f1abc3487a) => (50, 0xa6ead31bafbde5b8) => (51, 0xe9c63a4f0b2f5ea0)
    => (52, 0x487f3a8bbe17b330) => (53, 0xc315d3d1c876e36a) => (54, 0x598a06212a4cef4c)
    => (55, 0xbdbd179e399d6d7) => (56, 0xda0b35dbf45d9a0a) => (57, 0xc41833475c9838e7)
    => (58, 0xca02c9bc1c49b36d) => (59, 0xebcaf93a3372099b) => (60, 0x2970c1c1a2113b72)
    => (61, 0x82f42352682748f2) => (62, 0xf8551dec85b4321b) => (63, 0x8993b18ffab7f6ed)
    => (64, 0x401d04a09) => (pc, 0x401d04a08) ∷
    row 1976 15 with (1, 0x207ffffe8) with (at, 0x207ffff30) with (185, 0x19c6c6f) => (0, 0x19c6c6f)
    => (47, 0x8112f766d39d64ee) => (48, 0xada05141a5ea86ae) => (49, 0xf60b4425cfae8417)
    => (50, 0x5a53d01350e95d28) => (51, 0xda79f50a299b11e2) => (52, 0x767db30a59c3a245)
    => (53, 0x2e5f0a13e1630e51) => (54, 0x21dfa26c0795606) => (55, 0xf1ba8342f7067964)
    => (56, 0xfd34a568850a786a) => (57, 0x248c60976a855319) => (58, 0x67c1b4cfa7770972)
    => (59, 0xc6d4a2113bdf9b73) => (60, 0x41c5285c27bf091c) => (61, 0xd89347b06b15526f)
    => (62, 0x8b3f000e05e2776b) => (63, 0x59c85174f826780f) => (64, 0x19c6c6f) => (pc, 0x19c6c6c) ∷
    row 1977 16 with (1, 0x4048e9c05) with (182, 0x2011ad36f) => (0, 0x2011ad36f)
    => (48, 0x48f93c584738ba16) => (49, 0x85fa399de173cd5c) => (50, 0xded8cfecd325bc4b)
    => (51, 0x5394ff451c4e86e3) => (52, 0xe42ec7a6bcee2d24) => (53, 0x90a62911b504af0e)
    => (54, 0x58fb238604920ca0) => (55, 0x3d2db703ab9645db) => (56, 0x3d3de38aaa115abf)
    => (57, 0x592ba91b00034b4c) => (58, 0x90f707b4ad6c1782) => (59, 0xe49fff57b24bbf61)
    => (60, 0x542690040ea242e8) => (61, 0xdf8ab9b9c26fa218) => (62, 0x60301daccdb3dcf2)
    => (63, 0xc4d2969f306ef374) => (64, 0x2011ad36f) => (pc, 0x2011ad36c) ∷
    row 1978 17 with (1, 0x404a64483) with (182, 0x20081b405) => (0, 0x20081b405)
    => (49, 0x890b302f45c95409) => (50, 0xcb9bb925ae56ebd0) => (51, 0x2a09db256e5b5f40)
    => (52, 0xa455962e85d6ae59) => (53, 0x3a7eea40f4c8d91a) => (54, 0xec85d75cbb31df85)
    => (55, 0xba6a5d81d911c198) => (56, 0xa42c7cb04e687f55) => (57, 0xa9cc34e81b3618ba)
    => (58, 0xcb4986293f7a8dc8) => (59, 0x8a47073bb35de7e) => (60, 0x61dcf3c78e680ade)
    => (61, 0xd6f31024b91112e6) => (62, 0x67e6c58b3b30f698) => (63, 0x14b813fb14c7b5f2)
    => (64, 0x20081b405) => (pc, 0x20081b404) ∷
    row 1979 18 with (1, 0x4f6350f) with (182, 0x200b5336b) => (0, 0x200b5336b)
    => (50, 0x35c202996530f37c) => (51, 0xdc5efa169c110fc4) => (52, 0x9ed98a9d2a6807b5)
    => (53, 0x7d31b42d1035db4f) => (54, 0x776776c64d7a8a91) => (55, 0x8d7ad268e236157d)
    => (56, 0xbf6bc714ce687c11) => (57, 0xc548b82c1211be4e) => (58, 0xd077fc14ad31dc35)
    => (59, 0xf784d9069fc8d5c3) => (60, 0x3a6f4f01e9d6aafb) => (61, 0x99375e068b5b5bdc)
    => (62, 0x13dd06148456e865) => (63, 0xaa60472bd4c95098) => (64, 0x200b5336b)
    => (pc, 0x200b53368) ∷
    row 1980 19 with (1, 0x407ffffe8) with (at, 0x407ffff30) with (185, 0x201299f3e)
    => (0, 0x201299f3e) => (51, 0x1d8cef8abb6c0dc5) => (52, 0x1d523dd4c7034189)
    => (53, 0x38f525282a1150f5) => (54, 0x7075a584e4963c0a) => (55, 0xc3d3beeaf69202c9)
    => (56, 0x330f715a6004a530) => (57, 0xbe28bcd320ee2340) => (58, 0x651fa155394e7cf8)
    => (59, 0x27f41ee0a925b25a) => (60, 0x6a635757073c365) => (61, 0x135e5138f38b018)
    => (62, 0x17a32dbb05747874) => (63, 0x49ee0f6bd3271c79) => (64, 0x201299f3e)
    => (pc, 0x201299f3c) ∷
    row 1981 20 with (1, 0xa1) with (at, 1) with (182, 0x20012ad85) => (0, 0x20012ad85)
    => (52, 0xf38a8ff068542e3) => (53, 0xc0f4b7ddda0a682d) => (54, 0x8e8e5fc605066920)
    => (55, 0x7805a0b7877945bc) => (56, 0x7d5a7ab26162fe00) => (57, 0x9e8cedb692c391ee)
    => (58, 0xdb9cf9c41b9b0184) => (59, 0x348a9edafbe94cc3) => (60, 0xa955dcfb33ae73ab)
    => (61, 0x39feb424c2ea763c) => (62, 0xe6852457a99d5476) => (63, 0xaee92d93e7c70e59)
    => (64, 0x20012ad85) => (pc, 0x20012ad84) ∷
    row 1982 21 with (1, 0x20437b6ff) with (182, 0x2018d8ef4) => (0, 0x2018d8ef4)
    => (53, 0x57c6c02e8871f2d7) => (54, 0x6d8f3d942a499ca2) => (55, 0x9f35540323982216)
    => (56, 0xecb9037b745d8333) => (57, 0x561a4bfd1c99bff8) => (58, 0xdb592d881c4cd867)
    => (59, 0x7c75a81c7376cc7e) => (60, 0x396fbbba22179c3e) => (61, 0x12476861282f47a8)
    => (62, 0x6fcae1185bdceb9) => (63, 0x178f8ccb3ac33174) => (64, 0x2018d8ef4) => (pc, 0x2018d8ef4)
    ∷
    row 1983 22 with (1, 0x468c7bf) with (182, 0x4002db415) => (0, 0x4002db415)
    => (54, 0xf12b72bd2b35a84b) => (55, 0xc837bd39b5fd697) => (56, 0x43b91df36300e08c)
    => (57, 0x96cc591c8218c62a) => (58, 0x5bd2d4ef8a78771) => (59, 0x908b9a8ac6ad2460)
    => (60, 0x3737a0cfec299cf9) => (61, 0xf9c1401e691cf13a) => (62, 0xd82878763d872124)
    => (63, 0xd26d49d769682cb7) => (64, 0x4002db415) => (pc, 0x4002db414) ∷
    row 1984 23 with (1, 0x407ffffe8) with (at, 0x407ffff30) with (185, 0x4010c92fa)
    => (0, 0x4010c92fa) => (55, 0x11d9d200b0ab0ea2) => (56, 0xe4d714b9f58c546a)
    => (57, 0xd3b1f07c91e475da) => (58, 0xac170f5285b372f4) => (59, 0x74303a51d0f94bb6)
    => (60, 0x5826fe5a73b60021) => (61, 0x57fb5b6c6de99035) => (62, 0x73ad5187bf93fbf2)
    => (63, 0xab3ce0ac68b54357) => (64, 0x4010c92fa) => (pc, 0x4010c92f8) ∷
    row 1985 24 with (1, 0x4c916bb) with (182, 0x4019dc9e5) => (0, 0x4019dc9e5)
    => (56, 0x2912f70fd34223b6) => (57, 0xae06fa5de0115b04) => (58, 0x4ed896b544576dfb)
    => (59, 0xb87cc1600145c9b) => (60, 0xe4149a80134826e3) => (61, 0xd87f01f37df2ccd5)
    => (62, 0xe8c7027040144e6f) => (63, 0x14ec9bf659acabb2) => (64, 0x4019dc9e5)
    => (pc, 0x4019dc9e4) ∷
    row 1986 25 with (1, 0x4044daa4c) with (182, 0x2014dd6dc) => (0, 0x2014dd6dc)
    => (57, 0xcc2fc3e1d88ae9ab) => (58, 0x56b352e0b3aca57a) => (59, 0xfd147ae8e6453cf2)
    => (60, 0xbf533bfa7054b013) => (61, 0x9d6f961551dafedd) => (62, 0x976989398ad82950)
    => (63, 0xad4115671b4c2f6b) => (64, 0x2014dd6dc) => (pc, 0x2014dd6dc) ∷
    row 1987 26 with (1, 0x4045fdb40) with (182, 0x88a7d4) => (0, 0x88a7d4)
    => (58, 0xb6ef35f6feaab522) => (59, 0xa57f337ca81ef572) => (60, 0xafecca0ba90a116b)
    => (61, 0xd637f9a4016c090d) => (62, 0x1860c245b144dc57) => (63, 0x766723f0b8948b4b)
    => (64, 0x88a7d4) => (pc, 0x88a7d4) ∷
    row 1988 27 with (1, 0x207ffffe8) with (at, 0x207ffff30) with (185, 0x4012cdc95)
    => (0, 0x4012cdc95) => (59, 0xd99e0dfcb35a6786) => (60, 0x2156624f3185bf52)
    => (61, 0x84ec4fab0727f2c6) => (62, 0x45fd610344101e4) => (63, 0x9fb0f57eb8d0ecaa)
    => (64, 0x4012cdc95) => (pc, 0x4012cdc94) ∷
    row 1989 28 with (1, 0x204d7bffa) with (182, 0x10658a5) => (0, 0x10658a5)
    => (60, 0x9ac02f72ad6f5c8f) => (61, 0xf2ec272ff388a5e1) => (62, 0x66f5b7f69118cadc)
    => (63, 0xf6dce1c6861fcb80) => (64, 0x10658a5) => (pc, 0x10658a4) ∷
    row 1990 29 with (1, 0x40492c915) with (182, 0x400e988e7) => (0, 0x400e988e7)
    => (61, 0xdd12452d36143887) => (62, 0x3acdc89b4a80065a) => (63, 0xb466e512b662afd6)
    => (64, 0x400e988e7) => (pc, 0x400e988e4) ∷
    row 1991 30 with (1, 0x204db6f93) with (182, 0xf618df) => (0, 0xf618df)
    => (62, 0xd981d0b6df9019ff) => (63, 0x3cccdfd5c24e6c53) => (64, 0xf618df) => (pc, 0xf618dc) ∷
    row 1992 31 with (1, 0x7ffffe8) with (at, 0x7ffff30) with (185, 0x1b4327d) => (0, 0x1b4327d)
    => (63, 0x1011e1bec37a1871) => (64, 0x1b4327d) => (pc, 0x1b4327c) ∷
    [])

unfoldable pub ppc64_savevr : Functions
ppc64_savevr =
    -- _savevr_N
    functions
    (0x3980ff40 ∷ 0x7e8c01ce ∷ 0x3980ff50 ∷ 0x7eac01ce ∷ 0x3980ff60 ∷ 0x7ecc01ce ∷ 0x3980ff70 ∷
    0x7eec01ce ∷ 0x3980ff80 ∷ 0x7f0c01ce ∷ 0x3980ff90 ∷ 0x7f2c01ce ∷ 0x3980ffa0 ∷ 0x7f4c01ce ∷
    0x3980ffb0 ∷ 0x7f6c01ce ∷ 0x3980ffc0 ∷ 0x7f8c01ce ∷ 0x3980ffd0 ∷ 0x7fac01ce ∷ 0x3980ffe0 ∷
    0x7fcc01ce ∷ 0x3980fff0 ∷ 0x7fec01ce ∷ 0x4e800020 ∷ []) (
    row 1993 20 with (0, 0xd5) with (64, 0x129b000) with (at, 1) => (12, 0xfffffffffffffff0)
    => (pc, 0x129b000) => (161, 0xd44d5fc90ae42d5c) => (162, 0x2ff9a3f2123cc216)
    => (163, 0x3fb4409adccda327) => (164, 0x7fdb10002aa5a888) => (165, 0x9cf6871e9ad81da2)
    => (166, 0xc51ba2ffeb0d8ca9) => (167, 0xea0e6605bb31af67) => (168, 0x39bb5cf153746e7a)
    => (169, 0x2ae06ecad3d7f649) => (170, 0x3fba3dd463da4dfc) => (171, 0x5bb2a5a4952e3385)
    => (172, 0x3b1845a91c3f2b2d) => (173, 0x7d5a74e1b8d3880b) => (174, 0x2bd5746f7ca3060e)
    => (175, 0x91d7dc823ec7f3db) => (176, 0x11f1ca278505de9f) => (177, 0x962adc86270b76f5)
    => (178, 0xed6d46d13567b4e0) => (179, 0x8c5374ed719e1158) => (180, 0xbe47ea6c8dc888d1)
    => (181, 0x7451a5b81e7fc306) => (182, 0x8481b4f98e285a72) => (183, 0x4d256ee62db08bfe)
    => (184, 0x401aa678368729c3) => (185, 0xc9ced0779f306c40) ∷
    row 1994 21 with (0, 0x407138d) with (64, 0x200550c80) => (12, 0xfffffffffffffff0)
    => (pc, 0x200550c80) => (162, 0xea98374cc6c549c2) => (163, 0x2da812536aec11e2)
    => (164, 0x7eaaebff4ca85019) => (165, 0x5472ecbaef93d148) => (166, 0x106d91b128db61d0)
    => (167, 0x9287bc819b2d38ad) => (168, 0x9fe028389d71d5d6) => (169, 0xe7e681a76db84810)
    => (170, 0x2d02b095aa6bac2b) => (171, 0x548f3c2c6734ff73) => (172, 0xb7d52ac84fc8e4d0)
    => (173, 0xd881ec1087a35ed4) => (174, 0x405795d08d897fc3) => (175, 0x73be9153cf036635)
    => (176, 0xc689f2ae63ad7d06) => (177, 0x26452bf63d551594) => (178, 0x4a6c3f61d234dc98)
    => (179, 0xf015bbf7d2986cf3) => (180, 0xcbfe7eead91f9e78) => (181, 0xd13041588ecd6c50)
    => (182, 0x4b40af49786dc2a8) => (183, 0x3153a61871f413ad) => (184, 0x2c3ae302a6d52096) ∷
    row 1995 22 with (0, 0x4db84e8) with (64, 0x1257716) => (12, 0xfffffffffffffff0)
    => (pc, 0x1257714) => (165, 0x4be426b5336203b1) => (166, 0xc75f3d35b628add7)
    => (167, 0x3981681b95a3b7ae) => (168, 0xc932711b2e263a0) => (169, 0x86459b29f6e31b9d)
    => (170, 0x39d6cd965ccc7fa) => (171, 0x3230bfe057202f7d) => (172, 0xd040160367ce764a)
    => (173, 0x3d42d63eb65af34e) => (174, 0x727b228fb8e76e8f) => (175, 0xa77bde4514936710)
    => (176, 0xea4e927e5917b0c9) => (177, 0x70dbd7f371c98ac4) => (178, 0x37ba65cf485f3cf9)
    => (179, 0x9962c349cdfd5e6a) => (180, 0x5abe9c8286be131e) => (181, 0x2110a048292ee200)
    => (182, 0x535b369814343339) => (183, 0x7e56eee835e1588) => (184, 0x2190340ff0c19d49) ∷
    row 1996 23 with (0, 0x408000009) with (64, 0x1834f56) with (at, 0x407ffff30)
    => (12, 0xfffffffffffffff0) => (pc, 0x1834f54) => (168, 0xe30fa1fc2e285943)
    => (169, 0x1da9603ffb01b670) => (170, 0x56c57d098d17ae89) => (171, 0x9f89c61cad043d8a)
    => (172, 0x29a249beeb04b3c0) => (173, 0xf7028f5bae1e0e99) => (174, 0x5ba6081c47ef68e9)
    => (175, 0x2413bbfcfe4f299d) => (176, 0xecd0b821a3d7ce03) => (177, 0x26bd4c009d978e96)
    => (178, 0xdd2259cefebde30e) => (179, 0xfeff3f668bf73d85) => (180, 0x2c9aed2458a1a80b)
    => (181, 0xacd9962ec96e366a) => (182, 0xdb3a7221b1831cf9) => (183, 0x304c505955fc7943)
    => (184, 0xe900e8c7096241d8) => (185, 0x5ca5dc7a99cf70fc) ∷
    row 1997 24 with (0, 0x4829510) with (64, 0x139529a) => (12, 0xfffffffffffffff0)
    => (pc, 0x1395298) => (168, 0x5de6d33d98ebb268) => (169, 0x12332a31df5118ed)
    => (170, 0xd29b2eda8f7a14bc) => (171, 0x276388e0b5f512bb) => (172, 0x38f7897535fa0632)
    => (173, 0x9ff636a6d68e6bb1) => (174, 0x90fbe30d8c6ccd40) => (175, 0x7beb3384411d23cd)
    => (176, 0xdaa83ba392cf69e7) => (177, 0xbb427f78f5a13b10) => (178, 0x15fc93374923dc26)
    => (179, 0x5dfc1a84f41ab17b) => (180, 0x42f8e9c8af6823fe) => (181, 0x641804a83c89870c)
    => (182, 0x619d3f57c59f416e) => (183, 0xcd963de2ceedbbc4) => (184, 0x6650f75e8a1a3476) ∷
    row 1998 25 with (0, 0x4ffdea4) with (64, 0x734688) => (12, 0xfffffffffffffff0)
    => (pc, 0x734688) => (171, 0xc2abdf5f9738bc97) => (172, 0x6291ed7d5a7522a1)
    => (173, 0x5a83e5dc32e818b3) => (174, 0xa5ea6d6468d07aec) => (175, 0xa24c37c0cb8fc591)
    => (176, 0x33384c7268d3d234) => (177, 0x9a065f3dc799c187) => (178, 0xa7b8aa75a7f287a)
    => (179, 0x41b25c5327060c94) => (180, 0x2bb428033dd27dbe) => (181, 0x994f2f00e9d4a6b8)
    => (182, 0xcaf6248612cdd1ff) => (183, 0xa0dde9c60b7a9369) => (184, 0x62ef802fd971253e)
    => (185, 0xbad76cbc0ea2a39) ∷
    row 1999 26 with (0, 0x404601ad4) with (64, 0x400d2dec1) => (12, 0xfffffffffffffff0)
    => (pc, 0x400d2dec0) => (172, 0xa71c54d682e98b04) => (173, 0x724132132960bf97)
    => (174, 0xa9714d0fa2e82cfa) => (175, 0x6d9abca60c66bf3f) => (176, 0x53c542f8b4a9a742)
    => (177, 0xcb435e82e4cbe5d9) => (178, 0xa6183691b740b9ed) => (179, 0x8b3b17a9b2903364)
    => (180, 0xa06a27daacad64fc) => (181, 0xad81e81a75b3a7e1) => (182, 0x42bb16d391efa86e)
    => (183, 0x3217cfd52e364350) => (184, 0x814cff3625078444) ∷
    row 2000 27 with (0, 0x408000000) with (64, 0x4002708cc) with (at, 0x407ffff30)
    => (12, 0xfffffffffffffff0) => (pc, 0x4002708cc) => (176, 0x72b4157cc056d470)
    => (177, 0x57e520487242ac75) => (178, 0xfecc572611fcaed9) => (179, 0x79cdebbb19fcac0c)
    => (180, 0xea0b8a7762a03934) => (181, 0x714f1a9010cdf599) => (182, 0x3471af70b2417380)
    => (183, 0x9f3f60f953f26930) => (184, 0xddfec61200e05dbd) => (185, 0x5118826f476f297d) ∷
    row 2001 28 with (0, 0x4741628) with (64, 0x201d8dc02) => (12, 0xfffffffffffffff0)
    => (pc, 0x201d8dc00) => (177, 0x5ad3f60ea7bc75c1) => (178, 0x73fd69940fe4c423)
    => (179, 0x8baf465cfb382765) => (180, 0xf2782fe87633e635) => (181, 0xe37c3eaa4c63cbf6)
    => (182, 0x956588bf3ccfda6) => (183, 0x623adef69b3f5f5e) => (184, 0xb897e37e88b00a77)
    => (185, 0x4dda2852c37bbf9a) ∷
    row 2002 29 with (0, 0x404d27fdf) with (64, 0x401e68950) => (12, 0xfffffffffffffff0)
    => (pc, 0x401e68950) => (178, 0xb3d31307478e9133) => (179, 0xc4286107af941b72)
    => (180, 0xfd480a5248ab8c73) => (181, 0xdf938da146dc060a) => (182, 0x6daea99c47787814)
    => (183, 0x8c2109f170c4a802) => (184, 0xfc05c50cfdd700eb) ∷
    row 2003 30 with (0, 0x204be86fb) with (64, 0x200422bdc) => (12, 0xfffffffffffffff0)
    => (pc, 0x200422bdc) => (180, 0x4ac5718b0b4e3644) => (181, 0x542160bf12d3aa36)
    => (182, 0x9098c911b1922cb) => (183, 0x5f827f212171f1e5) => (184, 0x7a3ee13c8aa720d) ∷
    row 2004 31 with (0, 0x800000a) with (64, 0x4007ce992) with (at, 0x7ffff30)
    => (12, 0xfffffffffffffff0) => (pc, 0x4007ce990) => (184, 0xed7c9337f773f10f)
    => (185, 0x46269cba283e346d) ∷
    [])

unfoldable pub ppc64_restvr : Functions
ppc64_restvr =
    -- _restvr_N
    functions
    (0x3980ff40 ∷ 0x7e8c00ce ∷ 0x3980ff50 ∷ 0x7eac00ce ∷ 0x3980ff60 ∷ 0x7ecc00ce ∷ 0x3980ff70 ∷
    0x7eec00ce ∷ 0x3980ff80 ∷ 0x7f0c00ce ∷ 0x3980ff90 ∷ 0x7f2c00ce ∷ 0x3980ffa0 ∷ 0x7f4c00ce ∷
    0x3980ffb0 ∷ 0x7f6c00ce ∷ 0x3980ffc0 ∷ 0x7f8c00ce ∷ 0x3980ffd0 ∷ 0x7fac00ce ∷ 0x3980ffe0 ∷
    0x7fcc00ce ∷ 0x3980fff0 ∷ 0x7fec00ce ∷ 0x4e800020 ∷ []) (
    row 2005 20 with (0, 0xd6) with (64, 0x201c54450) with (at, 1) => (12, 0xfffffffffffffff0)
    => (pc, 0x201c54450) => (148, 0xccf3f9551178042e35fc6d69bda46b47)
    => (149, 0x93ae2d321db2304f41848e97dc274630) => (150, 0xd0cc866d055affdfc370d523d618c389)
    => (151, 0x844f0505c87272dfbbc1410dab78e451) => (152, 0xae35a8fc66f8894f2a75d2555c47a989)
    => (153, 0x5327d450e0ed422e0f8e88fae8851130) => (154, 0x7011170336509f26f2cff0fe50311c50)
    => (155, 0x35e7f1367229f27caeb465f934bcb19) => (156, 0xd100c8173634398196ac11eb1d51d52)
    => (157, 0x8d25bf4d5b128a77de4e613babcd12fa) => (158, 0x839f97771e3075c7199626b68133ab11)
    => (159, 0xf07d94febcbd0385cb42118f3208e798) ∷
    row 2006 21 with (0, 0x204d44c98) with (64, 0x18e1f9) => (12, 0xfffffffffffffff0)
    => (pc, 0x18e1f8) => (149, 0x51a1788bcda9656b2b1e3bd227514b7e)
    => (150, 0x37730e057eec939755bdbe9ceadd2873) => (151, 0x93a8c8dd0b9e6532f6c166c589d7a8d7)
    => (152, 0x6642a91273beda3e0e29344c0440cbaa) => (153, 0xaf40aea5b74df2b89bf527305a1891ed)
    => (154, 0x6ea2d996d64bada2a0253f728b5efb9f) => (155, 0xa46929e5d0b80cfc1ab97d12981408c1)
    => (156, 0x50939f92a6930fc50bb1e0108037b952) => (157, 0x73223a9d57dcb4fd730e686c43ca0d53)
    => (158, 0xc14fb05e494fea550cf1625e2cb05c3) => (159, 0x1b6be0cc4cbbeabca4f3e93d5d3a9fa3) ∷
    row 2007 22 with (0, 0x44c1e96) with (64, 0x400303ae4) => (12, 0xfffffffffffffff0)
    => (pc, 0x400303ae4) => (150, 0x57f9b72c77f4de3d81c2d0988b6ccdb2)
    => (151, 0xda6de8e74a404787c788149c0c98cc61) => (152, 0x1c3ff610c1567e06f6ab340e31bd73fa)
    => (153, 0x836fdea8dcdc2aea4b2c2eeefa0b65ac) => (154, 0xffda2af99d14e31c50b053e66c8cdc1)
    => (155, 0xc1e94224fa35e7dd6447b6fc75f5ac3b) => (156, 0x9932bd08fe09f7ed28e2442928920118)
    => (157, 0x95da135ba64d7e6112daacc47e9dcc5a) => (158, 0xb7df451cf1007b392230f0ce77190e00)
    => (159, 0xff42524ce022ee7556e510471403c60a) ∷
    row 2008 23 with (0, 0x800000b) with (64, 0x201c192b7) with (at, 0x7ffff30)
    => (12, 0xfffffffffffffff0) => (pc, 0x201c192b4) => (151, 0xfb66133d6b7665f1360acaad0ec671db)
    => (152, 0xd9b56f7a2b3ae119dc9ef4d71f9d35b1) => (153, 0x277b2fdc48dacae3f2a983268e4f6829)
    => (154, 0xe4b75463c4562351782a759b5add0946) => (155, 0x1169dd109dacea626d21cc3585461905)
    => (156, 0xad92c9e2d4df2017d18f86f50d8a9768) => (157, 0xb9321ada69ecc46fa573a5d9f3aa846f)
    => (158, 0x15c318fd5cd5d76a28c654c037a5e018) => (159, 0x43556c93ad9a59091e9d7643d97caa65) ∷
    row 2009 24 with (0, 0x4048f455b) with (64, 0x20062a767) => (12, 0xfffffffffffffff0)
    => (pc, 0x20062a764) => (152, 0x58517e126faf35578d66a9d144acbcc0)
    => (153, 0x41bff1b0cc18b9803f19eb5cf2288997) => (154, 0x9aa4c974865dac4d6043910dfd7fc512)
    => (155, 0x6300055d9e7e0dbdf0e39ae466b26f30) => (156, 0x9ad1a56c1479ddd0f0fa08e02dc087f2)
    => (157, 0x4219a99fe8511c876086db0152aa0f57) => (158, 0x58d811f91a03c9e13f8a1147d56f055f)
    => (159, 0xdf0cde77a991e5de8e03abb3b60f6a0b) ∷
    row 2010 25 with (0, 0x2045a9a29) with (64, 0xb19b6e) => (12, 0xfffffffffffffff0)
    => (pc, 0xb19b6c) => (153, 0x8dcd9768649efb79e58ae2fe19ca1fa8)
    => (154, 0xe4b793374de17e388d87277bcb517054) => (155, 0x997cfda9a69a651c935eda9bec4f2525)
    => (156, 0xac1dd6be2eefbb59f711fc5f9b662c26) => (157, 0x1c9a1e77a99ba4dcb8a08cc6de56e396)
    => (158, 0xeaf1d4d393bdf284d80a8bd090bdff2c) => (159, 0x1724f9d2ed56a452554ff97eb29b7ee6) ∷
    row 2011 26 with (0, 0x404b38c57) with (64, 0x332f76) => (12, 0xfffffffffffffff0)
    => (pc, 0x332f74) => (154, 0x30943e658f6482f696ff70597ad116b4)
    => (155, 0x2ed9e0e24b87af13633263e87fa10b16) => (156, 0x9144e13a764c4aa6938ab552f3156eee)
    => (157, 0x57d53f6e0fb555b028086498d52c423c) => (158, 0x828afb7d17c2d03020ab71ba25e78501)
    => (159, 0x116615678e71ba267d73dcb6e545373c) ∷
    row 2012 27 with (0, 0x208000003) with (64, 0x20194451f) with (at, 0x207ffff30)
    => (12, 0xfffffffffffffff0) => (pc, 0x20194451c) => (155, 0x2bf5170e03f0718c826858bf101afcce)
    => (156, 0xd2a75ec7f1ffee02f15f6e664f3cc1f2) => (157, 0xe8d00aa73dead91bcfcce832ec39f5ba)
    => (158, 0x6e6f1aabe7b132d81db0c624e7129825) => (159, 0x63848ed5ef52fb38db0b083c3fc6a933) ∷
    row 2013 28 with (0, 0x40e48d5) with (64, 0x4014e8988) => (12, 0xfffffffffffffff0)
    => (pc, 0x4014e8988) => (156, 0x3ddf1976b784c4cf68f70bdd8aaf02a7)
    => (157, 0x7aa88841dc4c4f83ee6f42ed7d63de6e) => (158, 0x2615668365393813e28ae973d43e1810)
    => (159, 0x4026b43b524b7e7f4549ff708f3daf8e) ∷
    row 2014 29 with (0, 0x404101326) with (64, 0x400c10524) => (12, 0xfffffffffffffff0)
    => (pc, 0x400c10524) => (157, 0x648e76bf4be5f30fd4a68565e3d2ca57)
    => (158, 0xa064be05175fdd4bfdcddef45d14f961) => (159, 0x198e0b986493dec4c5313f17ac69ecf) ∷
    row 2015 30 with (0, 0x2049f7aeb) with (64, 0x2007d8672) => (12, 0xfffffffffffffff0)
    => (pc, 0x2007d8670) => (158, 0xd1d2429506f196317e6d10ffcba122bb)
    => (159, 0x94a30a5277e615e92e8eeb05ea5de740) ∷
    row 2016 31 with (0, 0x8000008) with (64, 0x400f2abd0) with (at, 0x7ffff30)
    => (12, 0xfffffffffffffff0) => (pc, 0x400f2abd0) => (159, 0xffa08885eb991fdb136571a2609e2a76) ∷
    [])
