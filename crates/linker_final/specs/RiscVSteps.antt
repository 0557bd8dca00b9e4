-- What the emulator unicorn 2.0.1 made of instructions. `tools/oracle steps` makes this file.
use Rattle.std.specs.Prelude.{List, [], ◌∷◌}
use Rattle.linker_final.specs.Steps.{Group, group, m1, pc, row, ◌=>◌, ◌with◌}

unfoldable pub riscv_groups : List Group
riscv_groups =
    -- lui
    group 0x0 (
    row 1 0x00000037 ∷
    row 2 0xfffff837 => (16, 0xfffffffffffff000) ∷
    row 3 0x80000b37 => (22, 0xffffffff80000000) ∷
    row 4 0x7ffff3b7 => (7, 0x7ffff000) ∷
    row 5 0x00001d37 => (26, 0x1000) ∷
    row 6 0xfffff737 => (14, 0xfffffffffffff000) ∷
    row 7 0x80000737 => (14, 0xffffffff80000000) ∷
    row 8 0x7ffff437 => (8, 0x7ffff000) ∷
    row 9 0x00001eb7 => (29, 0x1000) ∷
    row 10 0x00000eb7 => (29, 0) ∷
    row 11 0x80000eb7 => (29, 0xffffffff80000000) ∷
    row 12 0x7ffff1b7 => (3, 0x7ffff000) ∷
    row 13 0x000014b7 => (9, 0x1000) ∷
    row 14 0x000006b7 => (13, 0) ∷
    row 15 0xfffff237 => (4, 0xfffffffffffff000) ∷
    row 16 0x7ffffd37 => (26, 0x7ffff000) ∷
    row 17 0x00001a37 => (20, 0x1000) ∷
    row 18 0x00000cb7 => (25, 0) ∷
    row 19 0xfffff637 => (12, 0xfffffffffffff000) ∷
    row 20 0x80000637 => (12, 0xffffffff80000000) ∷
    row 21 0x204c33b7 => (7, 0x204c3000) ∷
    row 22 0x82cdb537 => (10, 0xffffffff82cdb000) ∷
    row 23 0x6a98c0b7 => (1, 0x6a98c000) ∷
    row 24 0xca34f7b7 => (15, 0xffffffffca34f000) ∷
    row 25 0x45cf0637 => (12, 0x45cf0000) ∷
    row 26 0x493c17b7 => (15, 0x493c1000) ∷
    row 27 0xb7d336b7 => (13, 0xffffffffb7d33000) ∷
    row 28 0xdce8cc37 => (24, 0xffffffffdce8c000) ∷
    row 29 0xa0dc42b7 => (5, 0xffffffffa0dc4000) ∷
    row 30 0x2dd17937 => (18, 0x2dd17000) ∷
    row 31 0xc9bbba37 => (20, 0xffffffffc9bbb000) ∷
    row 32 0x77fced37 => (26, 0x77fce000) ∷
    row 33 0x8dba4a37 => (20, 0xffffffff8dba4000) ∷
    row 34 0xdd0c6437 => (8, 0xffffffffdd0c6000) ∷
    row 35 0xe02c59b7 => (19, 0xffffffffe02c5000) ∷
    row 36 0x8b5f2eb7 => (29, 0xffffffff8b5f2000) ∷
    row 37 0x69c01637 => (12, 0x69c01000) ∷
    row 38 0xd8cc8437 => (8, 0xffffffffd8cc8000) ∷
    row 39 0xf6f56037 ∷
    row 40 0x609ec137 => (2, 0x609ec000) ∷
    []) ∷
    -- auipc
    group 0x0 (
    row 41 0x00000997 => (19, 0x70005d3ea5d2) ∷
    row 42 0xfffffa17 => (20, 0x70005e4fe51c) ∷
    row 43 0x80000997 => (19, 0x6fff96b2f4b6) ∷
    row 44 0x7ffff617 => (12, 0x70008667949c) ∷
    row 45 0x00001c97 => (25, 0x70002d6e14d2) ∷
    row 46 0xfffff817 => (16, 0x70000bc60558) ∷
    row 47 0x80000597 => (11, 0x6fffa16fd62a) ∷
    row 48 0x7ffff517 => (10, 0x7000ee6b374c) ∷
    row 49 0x00001517 => (10, 0x700072b878bc) ∷
    row 50 0x00000697 => (13, 0x70002e573a7c) ∷
    row 51 0x80000b17 => (22, 0x6fffa147bc8a) ∷
    row 52 0x7ffff497 => (9, 0x7000cb89dee6) ∷
    row 53 0x00001617 => (12, 0x70002d1de190) ∷
    row 54 0x00000f17 => (30, 0x700046036488) ∷
    row 55 0xfffff097 => (1, 0x7000163a97d0) ∷
    row 56 0x7ffffb97 => (23, 0x70009dc38b66) ∷
    row 57 0x00001097 => (1, 0x70005c9e4f4a) ∷
    row 58 0x00000d17 => (26, 0x700052ca937e) ∷
    row 59 0xfffff997 => (19, 0x700000488800) ∷
    row 60 0x80000117 => (2, 0x6fffe5184cd0) ∷
    row 61 0x167ab117 => (2, 0x700017b461ee) ∷
    row 62 0x5b82ed97 => (27, 0x7000b02fa75c) ∷
    row 63 0xa9ad6a97 => (21, 0x7000091eed18) ∷
    row 64 0x8a998d97 => (27, 0x6fffac218322) ∷
    row 65 0x821de317 => (6, 0x6fff9d0e097c) ∷
    row 66 0x54b1ce97 => (29, 0x7000a05bc024) ∷
    row 67 0x51f2fc17 => (24, 0x700085a8771a) ∷
    row 68 0x97b7a097 => (1, 0x6fffeaca5e5e) ∷
    row 69 0x896d4997 => (19, 0x6fffb32ee5f0) ∷
    row 70 0x949bca17 => (20, 0x6fffcc5dfdd2) ∷
    row 71 0xafb19717 => (14, 0x70002cc61602) ∷
    row 72 0x0439ae97 => (29, 0x70007df21e82) ∷
    row 73 0xe8a50397 => (7, 0x70001653274e) ∷
    row 74 0x0adcb217 => (4, 0x700023d2306a) ∷
    row 75 0x5336ff97 => (31, 0x70008ec579d6) ∷
    row 76 0x36070197 => (3, 0x70004b80438e) ∷
    row 77 0xdd237897 => (17, 0x700003d91d96) ∷
    row 78 0x0b7ce897 => (17, 0x70007ac0a7ec) ∷
    row 79 0x3e1e6917 => (18, 0x7000ad41f290) ∷
    row 80 0xdf745017 ∷
    []) ∷
    -- jal
    group 0x0 (
    row 81 0x0000026f with (pc, 0x700014d838c4) => (4, 0x700014d838c8) => (pc, 0x700014d838c4) ∷
    row 82 0xffdffeef with (pc, 0x70003aad1454) => (29, 0x70003aad1458) => (pc, 0x70003aad1450) ∷
    row 83 0x80000f6f => (30, 0x700017d3a038) => (pc, 0x700017c3a034) ∷
    row 84 0x7fdffe6f with (pc, 0x70002c4bdc60) => (28, 0x70002c4bdc64) => (pc, 0x70002c5bdc5c) ∷
    row 85 0x000016ef with (pc, 0x70007815c8dc) => (13, 0x70007815c8e0) => (pc, 0x70007815d8dc) ∷
    row 86 0xffdff36f => (6, 0x70007b3165ac) => (pc, 0x70007b3165a4) ∷
    row 87 0x800002ef => (5, 0x7000359eb2c4) => (pc, 0x7000358eb2c0) ∷
    row 88 0x7fdffaef => (21, 0x7000275db02c) => (pc, 0x7000276db024) ∷
    row 89 0x000013ef with (pc, 0x7000506e5ddc) => (7, 0x7000506e5de0) => (pc, 0x7000506e6ddc) ∷
    row 90 0x000000ef with (pc, 0x700030d0bbe0) => (1, 0x700030d0bbe4) => (pc, 0x700030d0bbe0) ∷
    row 91 0x800003ef with (pc, 0x70004884ca34) => (7, 0x70004884ca38) => (pc, 0x70004874ca34) ∷
    row 92 0x7fdff76f => (14, 0x7000178a88dc) => (pc, 0x7000179a88d4) ∷
    row 93 0x0000186f => (16, 0x70001de1f7cc) => (pc, 0x70001de207c8) ∷
    row 94 0x000005ef with (pc, 0x70005b8b1704) => (11, 0x70005b8b1708) => (pc, 0x70005b8b1704) ∷
    row 95 0xffdfff6f => (30, 0x70005085e698) => (pc, 0x70005085e690) ∷
    row 96 0x7fdff7ef => (15, 0x70007cd26674) => (pc, 0x70007ce2666c) ∷
    row 97 0x00001d6f with (pc, 0x700060709698) => (26, 0x70006070969c) => (pc, 0x70006070a698) ∷
    row 98 0x00000d6f with (pc, 0x70007b607710) => (26, 0x70007b607714) => (pc, 0x70007b607710) ∷
    row 99 0xffdffbef with (pc, 0x70004da207d8) => (23, 0x70004da207dc) => (pc, 0x70004da207d4) ∷
    row 100 0x800005ef => (11, 0x7000573548f4) => (pc, 0x7000572548f0) ∷
    row 101 0xd41712ef => (5, 0x7000181a3a58) => (pc, 0x700018115794) ∷
    row 102 0x2bd0116f => (2, 0x70001050dc0c) => (pc, 0x70001050f6c4) ∷
    row 103 0x4641d7ef => (15, 0x70003fd92e0c) => (pc, 0x70003fdb026c) ∷
    row 104 0x2fcf61ef => (3, 0x700026b3305c) => (pc, 0x700026c29354) ∷
    row 105 0xac9997ef => (15, 0x700044dee2fc) => (pc, 0x700044d87dc0) ∷
    row 106 0x804b6c6f => (24, 0x70001a5c45e8) => (pc, 0x70001a57a5e8) ∷
    row 107 0x5cd9666f => (12, 0x7000272b5924) => (pc, 0x70002734c6ec) ∷
    row 108 0x921896ef with (pc, 0x70006b4c1ca8) => (13, 0x70006b4c1cac) => (pc, 0x70006b44b5c8) ∷
    row 109 0x7b1e99ef => (19, 0x700066be9088) => (pc, 0x700066cd3034) ∷
    row 110 0xe2d66fef => (31, 0x70001982b4b0) => (pc, 0x7000197922d8) ∷
    row 111 0xe84ecd6f with (pc, 0x700003988920) => (26, 0x700003988924) => (pc, 0x700003974fa4) ∷
    row 112 0x7500fd6f with (pc, 0x700025000de4) => (26, 0x700025000de8) => (pc, 0x700025010534) ∷
    row 113 0x230b856f => (10, 0x70007db942fc) => (pc, 0x70007dc4c528) ∷
    row 114 0xf5d3a76f with (pc, 0x70000dc42858) => (14, 0x70000dc4285c) => (pc, 0x70000db7d7b4) ∷
    row 115 0x22c161ef with (pc, 0x70005520be08) => (3, 0x70005520be0c) => (pc, 0x700055222034) ∷
    row 116 0x9cdc98ef => (17, 0x700053cf040c) => (pc, 0x700053cb9dd4) ∷
    row 117 0xe05d22ef with (pc, 0x700009cefa54) => (5, 0x700009cefa58) => (pc, 0x700009cc2858) ∷
    row 118 0x4dd31aef with (pc, 0x70007720a0f0) => (21, 0x70007720a0f4) => (pc, 0x70007723bdcc) ∷
    row 119 0x8498a4ef => (9, 0x70001bc3f7e0) => (pc, 0x70001bbca024) ∷
    row 120 0x129cb46f with (pc, 0x700077b8ff14) => (8, 0x700077b8ff18) => (pc, 0x700077c5b83c) ∷
    []) ∷
    -- addi
    group 0x0 (
    row 121 0x00068693 with (13, 0) ∷
    row 122 0xfff88313 with (17, 0x8000000000000000) => (6, 0x7fffffffffffffff) ∷
    row 123 0x7ff50a93 with (10, 0x7fffffff) => (21, 0x800007fe) ∷
    row 124 0x800e0013 with (28, 0xffffffff80000000) ∷
    row 125 0x001d8e13 with (27, 0xffffffffffffffff) => (28, 0) ∷
    row 126 0xffff8e13 with (31, 0x80000000) => (28, 0x7fffffff) ∷
    row 127 0x7ffc8693 with (25, 0xffffffff7fffffff) => (13, 0xffffffff800007fe) ∷
    row 128 0x80038113 with (7, 1) => (2, 0xfffffffffffff801) ∷
    row 129 0x00178713 with (15, 0x7fffffffffffffff) => (14, 0x8000000000000000) ∷
    row 130 0x000f8193 with (31, 0xffffffff) => (3, 0xffffffff) ∷
    row 131 0x7ffd0393 with (26, 1) => (7, 0x800) ∷
    row 132 0x80030713 with (6, 0x7fffffffffffffff) => (14, 0x7ffffffffffff7ff) ∷
    row 133 0x00110413 with (2, 0xffffffff) => (8, 0x100000000) ∷
    row 134 0x00040413 with (8, 0) ∷
    row 135 0xfff70613 with (14, 0x8000000000000000) => (12, 0x7fffffffffffffff) ∷
    row 136 0x80048713 with (9, 0x7fffffff) => (14, 0x7ffff7ff) ∷
    row 137 0x00128493 with (5, 0xffffffff80000000) => (9, 0xffffffff80000001) ∷
    row 138 0x00030d13 with (6, 0xffffffffffffffff) => (26, 0xffffffffffffffff) ∷
    row 139 0xfff68213 with (13, 0x80000000) => (4, 0x7fffffff) ∷
    row 140 0x7ff90e13 with (18, 0xffffffff7fffffff) => (28, 0xffffffff800007fe) ∷
    row 141 0xed1b0913 => (18, 0x85cdd74dc0d081) ∷
    row 142 0x8e490393 => (7, 0x2b79eeaae1f18281) ∷
    row 143 0x87f40793 => (15, 0x31f63d6629830002) ∷
    row 144 0x45138b93 => (23, 0x10a18da115fb1390) ∷
    row 145 0xca6d8513 => (10, 0xfa59e362ecfb18d5) ∷
    row 146 0x10580293 => (5, 0xe7f10b0d5b499cd0) ∷
    row 147 0xe33e0093 => (1, 0x13c8c882b14dd187) ∷
    row 148 0x4cb10e13 => (28, 0x271308416c48461d) ∷
    row 149 0x6b508293 => (5, 0xe3e5adfe94656d33) ∷
    row 150 0xcc040a93 => (21, 0xb7a3a8b9166dd4dc) ∷
    row 151 0x79fc8f13 => (30, 0x2f763c941a63f786) ∷
    row 152 0x0ce38893 => (17, 0x829d776302efb4f7) ∷
    row 153 0xa1258413 => (8, 0x8cadf7ed8edc9805) ∷
    row 154 0x428b0b13 => (22, 0x737d43a86456817a) ∷
    row 155 0x31aa8193 => (3, 0x17c1a9a85d22c925) ∷
    row 156 0xaf118d93 => (27, 0xfff4454a04898d2d) ∷
    row 157 0x81ab0a93 => (21, 0x3d2d81505025e0b6) ∷
    row 158 0x24118613 => (12, 0xe694e5823ac8a9b9) ∷
    row 159 0x81a48413 => (8, 0xc818307edaaf87ac) ∷
    row 160 0x0ba08d13 => (26, 0xe8ec4a17ef3ca137) ∷
    []) ∷
    -- addiw
    group 0x0 (
    row 161 0x0007819b with (15, 0) => (3, 0) ∷
    row 162 0xfff28f9b with (5, 0x8000000000000000) => (31, 0xffffffffffffffff) ∷
    row 163 0x7ffe899b with (29, 0x7fffffff) => (19, 0xffffffff800007fe) ∷
    row 164 0x800b8d1b with (23, 0xffffffff80000000) => (26, 0x7ffff800) ∷
    row 165 0x00128e1b with (5, 0xffffffffffffffff) => (28, 0) ∷
    row 166 0xfff1019b with (2, 0x80000000) => (3, 0x7fffffff) ∷
    row 167 0x7ff1821b with (3, 0xffffffff7fffffff) => (4, 0xffffffff800007fe) ∷
    row 168 0x8009091b with (18, 1) => (18, 0xfffffffffffff801) ∷
    row 169 0x0017099b with (14, 0x7fffffffffffffff) => (19, 0) ∷
    row 170 0x0003029b with (6, 0xffffffff) => (5, 0xffffffffffffffff) ∷
    row 171 0x7ff6871b with (13, 1) => (14, 0x800) ∷
    row 172 0x80020f1b with (4, 0x7fffffffffffffff) => (30, 0xfffffffffffff7ff) ∷
    row 173 0x00118a1b with (3, 0xffffffff) => (20, 0) ∷
    row 174 0x000c081b with (24, 0) => (16, 0) ∷
    row 175 0xfffc0d9b with (24, 0x8000000000000000) => (27, 0xffffffffffffffff) ∷
    row 176 0x8006851b with (13, 0x7fffffff) => (10, 0x7ffff7ff) ∷
    row 177 0x00138d1b with (7, 0xffffffff80000000) => (26, 0xffffffff80000001) ∷
    row 178 0x0000879b with (1, 0xffffffffffffffff) => (15, 0xffffffffffffffff) ∷
    row 179 0xfff7051b with (14, 0x80000000) => (10, 0x7fffffff) ∷
    row 180 0x7ffe011b with (28, 0xffffffff7fffffff) => (2, 0xffffffff800007fe) ∷
    row 181 0x61fa011b => (2, 0x44360f66) ∷
    row 182 0xfd64041b => (8, 0xffffffffe19bdefb) ∷
    row 183 0x18d8881b => (16, 0xffffffffcf460dca) ∷
    row 184 0x1624869b => (13, 0x300f1ca6) ∷
    row 185 0x17de051b => (10, 0x3eb1bee0) ∷
    row 186 0x71a8051b => (10, 0xffffffffebd639e1) ∷
    row 187 0x4d15851b => (10, 0xffffffffb3f5a53a) ∷
    row 188 0x91b98e1b => (28, 0xfffffffffbc7189d) ∷
    row 189 0x5af28f1b => (30, 0xffffffffa3848533) ∷
    row 190 0xe8e70d9b => (27, 0x34befc17) ∷
    row 191 0x99c60e1b => (28, 0xffffffffec0eca80) ∷
    row 192 0x6044061b => (12, 0xffffffff919b9792) ∷
    row 193 0x4f95029b => (5, 0xffffffffd27f6e9b) ∷
    row 194 0xaef98f1b => (30, 0x3b6fea7f) ∷
    row 195 0x4d3f8a9b => (21, 0xffffffffe0a277e9) ∷
    row 196 0xb653809b => (1, 0x34b72a12) ∷
    row 197 0x4e4a841b => (8, 0xffffffff894ff19c) ∷
    row 198 0xb9b08c1b => (24, 0x16efa1) ∷
    row 199 0x1e670f1b => (30, 0xffffffffb6e6225a) ∷
    row 200 0x4e02021b => (4, 0x111d81b2) ∷
    []) ∷
    -- jalr
    group 0x0 (
    row 201 0x000907e7 with (18, 0x66b3c65f38c) => (15, 0x700032f872fc) => (pc, 0x66b3c65f38c) ∷
    row 202 0xfffa0a67 with (20, 0x2fe34448c988) => (20, 0x70004717f35c) => (pc, 0x2fe34448c986) ∷
    row 203 0x7fff8be7 with (31, 0x16eb74a46a6a) => (23, 0x70001289240c) => (pc, 0x16eb74a47268) ∷
    row 204 0x80028ee7 with (5, 0x166da14994d9) => (29, 0x7000154c050a) => (pc, 0x166da1498cd8) ∷
    row 205 0x001c0767 with (24, 0x169c1a7624ee) => (14, 0x70004f609658) => (pc, 0x169c1a7624ee) ∷
    row 206 0xfffd83e7 with (27, 0x448f8f7852f) => (7, 0x700040c6d7f4) => (pc, 0x448f8f7852e) ∷
    row 207 0x7ff68c67 with (13, 0x6e6ed12030e) => (24, 0x7000697ec9de) => (pc, 0x6e6ed120b0c) ∷
    row 208 0x80020667 with (4, 0x21299a5a4977) => (12, 0x700049886c16) => (pc, 0x21299a5a4176) ∷
    row 209 0x001f05e7 with (30, 0x8689c40ac04) => (11, 0x700060e3be9c) => (pc, 0x8689c40ac04) ∷
    row 210 0x000c04e7 with (24, 0x197c26410c47) => (9, 0x70002f90c172) => (pc, 0x197c26410c46) ∷
    row 211 0x7ff90067 with (18, 0x1f0350e80151) => (pc, 0x1f0350e80950) ∷
    row 212 0x800300e7 with (6, 0x369dc2070bb1) => (1, 0x700072dfd80a) => (pc, 0x369dc20703b0) ∷
    row 213 0x00198e67 with (19, 0x17dc11fc3ac7) => (28, 0x70006781ebca) => (pc, 0x17dc11fc3ac8) ∷
    row 214 0x00088567 with (17, 0x2d254dce069e) => (10, 0x70001375afda) => (pc, 0x2d254dce069e) ∷
    row 215 0xfff38167 with (7, 0x34ab85152730) => (2, 0x700076bb243a) => (pc, 0x34ab8515272e) ∷
    row 216 0x80048467 with (9, 0xc2798cffaca) => (8, 0x7000115248e6) => (pc, 0xc2798cff2ca) ∷
    row 217 0x001483e7 with (9, 0x392ef63afd61) => (7, 0x7000633b1de2) => (pc, 0x392ef63afd62) ∷
    row 218 0x00010967 with (2, 0x1301254bcb88) => (18, 0x70006c75a32c) => (pc, 0x1301254bcb88) ∷
    row 219 0xfff98967 with (19, 0x3f8203fef46f) => (18, 0x70002d01d8c4) => (pc, 0x3f8203fef46e) ∷
    row 220 0x7ff083e7 with (1, 0x9fca831a9cf) => (7, 0x700024dfbeaa) => (pc, 0x9fca831b1ce) ∷
    row 221 0xc5b28367 with (5, 0x6afc8eb511c) => (6, 0x7000540f54e0) => (pc, 0x6afc8eb4d76) ∷
    row 222 0xbede0ae7 with (28, 0x2358306f556c) => (21, 0x70003a909b64) => (pc, 0x2358306f5158) ∷
    row 223 0x76ea0767 with (20, 0x267f5304ac83) => (14, 0x700058639238) => (pc, 0x267f5304b3f0) ∷
    row 224 0x69d704e7 with (14, 0x1a9793776ded) => (9, 0x70002d883958) => (pc, 0x1a979377748a) ∷
    row 225 0x78de0be7 with (28, 0x24002d064214) => (23, 0x700039fe90c8) => (pc, 0x24002d0649a0) ∷
    row 226 0x2d930567 with (6, 0x111a5401ff81) => (10, 0x70007dc69886) => (pc, 0x111a5402025a) ∷
    row 227 0xa0b906e7 with (18, 0x3755b2cb2635) => (13, 0x700078e05094) => (pc, 0x3755b2cb2040) ∷
    row 228 0x47168f67 with (13, 0xcf490674eef) => (30, 0x70002b4bb8f0) => (pc, 0xcf490675360) ∷
    row 229 0x97c58be7 with (11, 0x24d0026a8e92) => (23, 0x70001508d19a) => (pc, 0x24d0026a880e) ∷
    row 230 0x826b8467 with (23, 0x2dc617121d92) => (8, 0x700036179a92) => (pc, 0x2dc6171215b8) ∷
    row 231 0xb86e8567 with (29, 0xa5fac8111c9) => (10, 0x70000e7813d8) => (pc, 0xa5fac810d4e) ∷
    row 232 0x2ea08867 with (1, 0xe349496589) => (16, 0x70001e2a3d6e) => (pc, 0xe349496872) ∷
    row 233 0x6e688e67 with (17, 0x1305639b60f6) => (28, 0x7000652e1752) => (pc, 0x1305639b67dc) ∷
    row 234 0xa8560867 with (12, 0x392f3599d968) => (16, 0x70006383a184) => (pc, 0x392f3599d3ec) ∷
    row 235 0xe6d80067 with (16, 0xb2db8147922) => (pc, 0xb2db814778e) ∷
    row 236 0x9c2d0a67 with (26, 0x5a7cac7138e) => (20, 0x70000623c6d6) => (pc, 0x5a7cac70d50) ∷
    row 237 0x32ae87e7 with (29, 0x24639de27581) => (15, 0x70002a6e61f4) => (pc, 0x24639de278aa) ∷
    row 238 0xa5c50267 with (10, 0x8fa9861f1f2) => (4, 0x7000060aad62) => (pc, 0x8fa9861ec4e) ∷
    row 239 0x1b1b0867 with (22, 0xa39db7476c4) => (16, 0x700018f8a91c) => (pc, 0xa39db747874) ∷
    row 240 0x66ff0467 with (30, 0x2b524dcc8784) => (8, 0x700063385526) => (pc, 0x2b524dcc8df2) ∷
    []) ∷
    -- add
    group 0x0 (
    row 241 0x01a389b3 with (7, 0) => (19, 0x3f1b8125c68d1287) ∷
    row 242 0x009785b3 with (15, 0x8000000000000000) => (11, 0xd4b08770d6047b29) ∷
    row 243 0x00ca8d33 with (21, 0x7fffffff) => (26, 0x5278b4bf51d202c3) ∷
    row 244 0x00978e33 with (15, 0xffffffff80000000) => (28, 0xc025dc61b400b4ea) ∷
    row 245 0x01658cb3 with (11, 0xffffffffffffffff) => (25, 0x9acfb6f44769a4ab) ∷
    row 246 0x00848333 with (9, 0x80000000) => (6, 0xf41ec3d3e219c477) ∷
    row 247 0x017805b3 with (16, 0xffffffff7fffffff) => (11, 0x94978f2a3b8c4c30) ∷
    row 248 0x003f0933 with (30, 1) => (18, 0xffa01fe1266fe21) ∷
    row 249 0x010a0833 with (20, 0x7fffffffffffffff) => (16, 0x5fc30e8849b4b7e3) ∷
    row 250 0x015e8fb3 with (29, 0xffffffff) => (31, 0xb84fd328437ebd9d) ∷
    row 251 0x00c90eb3 with (18, 1) => (29, 0x7ae34d12e375c2f4) ∷
    row 252 0x01c80e33 with (16, 0x7fffffffffffffff) => (28, 0x8e9bc5ce9a57e721) ∷
    row 253 0x00b28533 with (5, 0xffffffff) => (10, 0x3bb5cec7978a68d2) ∷
    row 254 0x014f83b3 with (31, 0) => (7, 0xfcc46da5bd6f21b0) ∷
    row 255 0x004a8633 with (21, 0x8000000000000000) => (12, 0x1a8f5a047ffb820a) ∷
    row 256 0x00b70b33 with (14, 0x7fffffff) => (22, 0xe4dbf3bd87ebd5cf) ∷
    row 257 0x01798cb3 with (19, 0xffffffff80000000) => (25, 0x3922a3c34af5c0f8) ∷
    row 258 0x019a84b3 with (21, 0xffffffffffffffff) => (9, 0x71ac52b96410db3a) ∷
    row 259 0x007e0733 with (28, 0x80000000) => (14, 0x8d85bb326396adb0) ∷
    row 260 0x01708533 with (1, 0xffffffff7fffffff) => (10, 0x9e21c0aebe250e30) ∷
    row 261 0x01c082b3 => (5, 0x6c025838b25cd13e) ∷
    row 262 0x01390db3 => (27, 0xd60e155fc700cbc) ∷
    row 263 0x017e0233 => (4, 0xf299abb36e8e9e81) ∷
    row 264 0x00f203b3 => (7, 0x887e8e3edb4673d4) ∷
    row 265 0x00c08833 => (16, 0x8193fb85f6e6c6da) ∷
    row 266 0x01fa86b3 => (13, 0x29aaf6b863f12297) ∷
    row 267 0x00f689b3 => (19, 0xcf428de282bea142) ∷
    row 268 0x00ee0133 => (2, 0x38ccde23af0cdb37) ∷
    row 269 0x00e70ab3 => (21, 0xa2c3569afe5dd954) ∷
    row 270 0x01d58533 => (10, 0x8d9443c52646e652) ∷
    row 271 0x009285b3 => (11, 0xbd7b43d44fe9a784) ∷
    row 272 0x002783b3 => (7, 0xc994ef321a4754ae) ∷
    row 273 0x013183b3 => (7, 0x13abc98df8c87d2d) ∷
    row 274 0x01f60433 => (8, 0x5729c4a21dc03aef) ∷
    row 275 0x019f8333 => (6, 0xd2961245a6696221) ∷
    row 276 0x00770233 => (4, 0x61ece681d159ffcc) ∷
    row 277 0x003e00b3 => (1, 0xcdaec234c319d3ec) ∷
    row 278 0x014b0933 => (18, 0x8cee45ff3646d3c4) ∷
    row 279 0x00570a33 => (20, 0xa9fd346d8a321159) ∷
    row 280 0x019184b3 => (9, 0xf161dc7a11d5d699) ∷
    []) ∷
    -- lb
    group 0x0 (
    row 281 0x00058803 with (11, 0x60000f50da2e) => (16, 0x36) ∷
    row 282 0xfff98e03 with (19, 0x600034ffcf7e) => (28, 0x4c) ∷
    row 283 0x7ff20e03 with (4, 0x6000365794f3) => (28, 0xffffffffffffff89) ∷
    row 284 0x80080e03 with (16, 0x600013584a8f) => (28, 0xffffffffffffffee) ∷
    row 285 0x00130983 with (6, 0x60000c01c053) => (19, 0x79) ∷
    row 286 0xfff18a83 with (3, 0x600020541640) => (21, 0x2c) ∷
    row 287 0x7fff0f03 with (30, 0x6000104f3c53) => (30, 6) ∷
    row 288 0x800a0f83 with (20, 0x60001bf3528c) => (31, 7) ∷
    row 289 0x00120e03 with (4, 0x6000034028ed) => (28, 0x30) ∷
    row 290 0x00030d83 with (6, 0x60000635df76) => (27, 0xffffffffffffff80) ∷
    row 291 0x7ff70583 with (14, 0x600024d46627) => (11, 0xfffffffffffffff7) ∷
    row 292 0x80048803 with (9, 0x60001f1bdcfe) => (16, 0xffffffffffffff96) ∷
    row 293 0x00118603 with (3, 0x6000350c13fb) => (12, 0x5b) ∷
    row 294 0x00058983 with (11, 0x600026a52b22) => (19, 0x48) ∷
    row 295 0xfffd0683 with (26, 0x600033e71a70) => (13, 0x5d) ∷
    row 296 0x800a0803 with (20, 0x60001cd1e9e3) => (16, 0xffffffffffffff98) ∷
    row 297 0x001b0b83 with (22, 0x60002165817e) => (23, 0xfffffffffffffffb) ∷
    row 298 0x00020a83 with (4, 0x600001a1f942) => (21, 0xffffffffffffff85) ∷
    row 299 0xfffc0f03 with (24, 0x60003d87492d) => (30, 0x36) ∷
    row 300 0x7fff0303 with (30, 0x60001515693e) => (6, 0xf) ∷
    row 301 0x8ee48003 with (9, 0x6000084c7888) ∷
    row 302 0x92d18283 with (3, 0x6000172c50a9) => (5, 0x36) ∷
    row 303 0x90318003 with (3, 0x600001b5015a) ∷
    row 304 0x8b048303 with (9, 0x600007e68a5b) => (6, 0xfffffffffffffffa) ∷
    row 305 0xf5610803 with (2, 0x600029c0e48b) => (16, 0xffffffffffffff97) ∷
    row 306 0x6b0d0d03 with (26, 0x60002744162e) => (26, 0x5b) ∷
    row 307 0x2d030883 with (6, 0x600000702b32) => (17, 0x47) ∷
    row 308 0x4de68e03 with (13, 0x600035451270) => (28, 0x5a) ∷
    row 309 0x4c058983 with (11, 0x600005c2d401) => (19, 0xffffffffffffff94) ∷
    row 310 0xbcbb0403 with (22, 0x600031e97690) => (8, 0xfffffffffffffff5) ∷
    row 311 0xd8f68903 with (13, 0x600039b8e68d) => (18, 0x7e) ∷
    row 312 0x71678c83 with (15, 0x60001d3126ef) => (25, 0x2e) ∷
    row 313 0x2a988f03 with (17, 0x60001c524d6c) => (30, 5) ∷
    row 314 0x75528d83 with (5, 0x6000371c42f7) => (27, 3) ∷
    row 315 0xd88b8a83 with (23, 0x60002d8f1f23) => (21, 0x29) ∷
    row 316 0x98dd0703 with (26, 0x60003faacda3) => (14, 0x76) ∷
    row 317 0x3aeb8883 with (23, 0x60002d6f462f) => (17, 0xffffffffffffffea) ∷
    row 318 0x39530b83 with (6, 0x600036dca11d) => (23, 0xffffffffffffff86) ∷
    row 319 0xda710e83 with (2, 0x60001bf2da06) => (29, 0x48) ∷
    row 320 0x98838c03 with (7, 0x60001cb1e948) => (24, 0x32) ∷
    []) ∷
    -- lh
    group 0x0 (
    row 321 0x000f1803 with (30, 0x60003919c61a) => (16, 0x5244) ∷
    row 322 0xfffe1203 with (28, 0x6000312a818c) => (4, 0xffffffffffffc17c) ∷
    row 323 0x7ff91283 with (18, 0x600004e40d25) => (5, 0x8dc) ∷
    row 324 0x80079303 with (15, 0x6000344688e4) => (6, 0x2863) ∷
    row 325 0x00191903 with (18, 0x60003f51c4ca) => (18, 0x2012) ∷
    row 326 0xfff89f83 with (17, 0x60002605e0db) => (31, 0xffffffffffffefe7) ∷
    row 327 0x7ff61f83 with (12, 0x60002862cd10) => (31, 0xffffffffffff97e4) ∷
    row 328 0x800a9203 with (21, 0x60000668a96c) => (4, 0x1809) ∷
    row 329 0x00189d03 with (17, 0x6000001745f0) => (26, 0x7054) ∷
    row 330 0x000e1603 with (28, 0x6000156ec29c) => (12, 0xffffffffffffa0c7) ∷
    row 331 0x7ff81703 with (16, 0x6000066f0f70) => (14, 0xffffffffffffa961) ∷
    row 332 0x800b1f83 with (22, 0x600013184c69) => (31, 0xffffffffffff8a22) ∷
    row 333 0x00151a83 with (10, 0x60003b6a4989) => (21, 0x430b) ∷
    row 334 0x00059383 with (11, 0x60003f6526d3) => (7, 0xffffffffffffd41b) ∷
    row 335 0xfff29483 with (5, 0x60001f08dc44) => (9, 0x3d52) ∷
    row 336 0x80039283 with (7, 0x60001a5571da) => (5, 0x7eb0) ∷
    row 337 0x00179103 with (15, 0x6000314acf97) => (2, 0xffffffffffff9836) ∷
    row 338 0x00079203 with (15, 0x600023e90d7e) => (4, 0xffffffffffff89e3) ∷
    row 339 0xfffe9f83 with (29, 0x60003230238c) => (31, 0x53b7) ∷
    row 340 0x7ff79803 with (15, 0x60001c2009c0) => (16, 0xfffffffffffff5b2) ∷
    row 341 0x50639503 with (7, 0x600021b8d315) => (10, 0x6fd5) ∷
    row 342 0x46db1103 with (22, 0x600002fa7231) => (2, 0xffffffffffffc21f) ∷
    row 343 0x204a1703 with (20, 0x60003fe4eb44) => (14, 0xffffffffffffec90) ∷
    row 344 0xbec79103 with (15, 0x60001878402d) => (2, 0xffffffffffffef29) ∷
    row 345 0x20849303 with (9, 0x60000cb4610a) => (6, 0xffffffffffffc9e9) ∷
    row 346 0x98b71e83 with (14, 0x60001c9968a6) => (29, 0x7cd0) ∷
    row 347 0xd2ed1e03 with (26, 0x600008273c4b) => (28, 0x7de) ∷
    row 348 0xfc521d83 with (4, 0x60000f5de922) => (27, 0x6b14) ∷
    row 349 0x30d09003 with (1, 0x6000323d6d70) ∷
    row 350 0xbd9e1283 with (28, 0x600030c5d461) => (5, 0xffffffffffffb9f5) ∷
    row 351 0xc4eb1a03 with (22, 0x60000af70bd0) => (20, 0xffffffffffffa5a1) ∷
    row 352 0xb9761083 with (12, 0x600000d11c92) => (1, 0x6973) ∷
    row 353 0x8f2d1403 with (26, 0x60001254076a) => (8, 0x56d) ∷
    row 354 0xbbc19b03 with (3, 0x60003f7fc4fa) => (22, 0x798f) ∷
    row 355 0xb3e39d03 with (7, 0x600008545df9) => (26, 0xffffffffffffc5d7) ∷
    row 356 0xa5419003 with (3, 0x60002cd1cf8c) ∷
    row 357 0xba621583 with (4, 0x60002cf8170a) => (11, 0xffffffffffffe6de) ∷
    row 358 0x90fe9803 with (29, 0x600008c73a98) => (16, 0xffffffffffffbb9c) ∷
    row 359 0x103e1083 with (28, 0x6000003f2bc2) => (1, 0x6882) ∷
    row 360 0xf08f1c03 with (30, 0x6000135fff03) => (24, 0xffffffffffffed8f) ∷
    []) ∷
    -- lw
    group 0x0 (
    row 361 0x000d2703 with (26, 0x60000229a778) => (14, 0x7de84ac3) ∷
    row 362 0xfff9a083 with (19, 0x60000c9c290d) => (1, 0xffffffffb610801f) ∷
    row 363 0x7ff3ab03 with (7, 0x600032b77ac9) => (22, 0xffffffffc9e18da1) ∷
    row 364 0x8001a083 with (3, 0x6000347bbcab) => (1, 0xffffffffb95b734b) ∷
    row 365 0x001b2f83 with (22, 0x600011e8beb4) => (31, 0xffffffff847e311d) ∷
    row 366 0xfff22083 with (4, 0x60000afea0e7) => (1, 0x2b49c715) ∷
    row 367 0x7ff12a03 with (2, 0x60001fbd533f) => (20, 0xffffffffadbe3535) ∷
    row 368 0x8008a483 with (17, 0x60001024f5be) => (9, 0xbdb7b7c) ∷
    row 369 0x0013ad03 with (7, 0x60001c355864) => (26, 0x45a199ea) ∷
    row 370 0x00052083 with (10, 0x600003ee9b34) => (1, 0x5b109080) ∷
    row 371 0x7ffbaa83 with (23, 0x60000750ae2a) => (21, 0x4c285f3d) ∷
    row 372 0x800a2183 with (20, 0x6000265bb146) => (3, 0x18e90621) ∷
    row 373 0x00132483 with (6, 0x6000210f748a) => (9, 0xffffffffc152852c) ∷
    row 374 0x000baa03 with (23, 0x6000376c17f6) => (20, 0x4564dc5f) ∷
    row 375 0xfffaad03 with (21, 0x60002971938a) => (26, 0xffffffffa5200bb9) ∷
    row 376 0x800fad03 with (31, 0x6000371fef43) => (26, 0xffffffffe084133a) ∷
    row 377 0x0011ac83 with (3, 0x600020771323) => (25, 0xfffffffff790f2e3) ∷
    row 378 0x0004a803 with (9, 0x60002577172d) => (16, 0xffffffffea46aab3) ∷
    row 379 0xfff2a303 with (5, 0x6000061ff35d) => (6, 0xffffffffb8a53aaa) ∷
    row 380 0x7ff6ae03 with (13, 0x600002719fb4) => (28, 0x62aca2c8) ∷
    row 381 0xf9fcaa83 with (25, 0x60001a6c3493) => (21, 0xffffffffe85ce30e) ∷
    row 382 0x9f1ea883 with (29, 0x60000e0f9ee6) => (17, 0x49b5fb7a) ∷
    row 383 0x4dfba603 with (23, 0x60001d5bd0c5) => (12, 0xffffffff86b7ec0f) ∷
    row 384 0x6abda383 with (27, 0x60000850e3ee) => (7, 0xffffffff9f62b4ca) ∷
    row 385 0x525b2f03 with (22, 0x60000eeed28f) => (30, 0xffffffff93b655ad) ∷
    row 386 0x9798a483 with (17, 0x60003135a37e) => (9, 0x63b2ceb7) ∷
    row 387 0xe3b1ad83 with (3, 0x60002f253c26) => (27, 0xf581fe8) ∷
    row 388 0x5555af83 with (11, 0x600008bdaa9d) => (31, 0xffffffff96a64940) ∷
    row 389 0x7f88aa03 with (17, 0x60003dfef5b3) => (20, 0xfffffffff99d4ac0) ∷
    row 390 0x5e862f03 with (12, 0x60000ee91da2) => (30, 0x383d2467) ∷
    row 391 0xb308a983 with (17, 0x60003b7c2661) => (19, 0x5285d635) ∷
    row 392 0xce74a583 with (9, 0x600003b7fad9) => (11, 0x4877602b) ∷
    row 393 0xc0bc2c03 with (24, 0x6000279caa0a) => (24, 0x1a11c248) ∷
    row 394 0x5a00a203 with (1, 0x6000272a26f2) => (4, 0xffffffffc754fc8c) ∷
    row 395 0x7b56a403 with (13, 0x600002608381) => (8, 0x50410ef7) ∷
    row 396 0x5a20a683 with (1, 0x6000393fbc60) => (13, 0xffffffffb4d5f98a) ∷
    row 397 0x30d4af83 with (9, 0x60000bc7cde8) => (31, 0xfffffffff513bc44) ∷
    row 398 0xa69aa583 with (21, 0x600039f8bda6) => (11, 0x10fa5725) ∷
    row 399 0x454aaf83 with (21, 0x600003d272fc) => (31, 0x889ca2e) ∷
    row 400 0xe6032583 with (6, 0x600029551058) => (11, 0xffffffffdbc2155d) ∷
    []) ∷
    -- ld
    group 0x0 (
    row 401 0x000c3883 with (24, 0x60002a807e48) => (17, 0x5ef2efc88aa338b4) ∷
    row 402 0xfff93b03 with (18, 0x60000754c600) => (22, 0x77f9413c152d3433) ∷
    row 403 0x7ff13083 with (2, 0x60003fd1dddf) => (1, 0xef3861107b6007d8) ∷
    row 404 0x800d3203 with (26, 0x600013f7e5e3) => (4, 0x149f2371bd3bb3a5) ∷
    row 405 0x001b3b83 with (22, 0x600003c6ae0f) => (23, 0x9e790833dac03799) ∷
    row 406 0xfff8b703 with (17, 0x60000f3e5665) => (14, 0xd0403b82d3ed93b5) ∷
    row 407 0x7ffeba83 with (29, 0x6000365ecee1) => (21, 0x6cb4e532a8c3c7f7) ∷
    row 408 0x8000b483 with (1, 0x600039283782) => (9, 0xd40586595942d461) ∷
    row 409 0x001fbc03 with (31, 0x6000179a604b) => (24, 0x59ebf80ce56ab8f2) ∷
    row 410 0x000eb303 with (29, 0x600011b5693d) => (6, 0xd3d75e214d3b75ab) ∷
    row 411 0x7ffa3583 with (20, 0x600027794257) => (11, 0x661e40c290b50a8b) ∷
    row 412 0x80083f03 with (16, 0x600018e60b96) => (30, 0xf2a46bc4afd77792) ∷
    row 413 0x001c3503 with (24, 0x600025fb94fc) => (10, 0x914bbf53aaa2bcc0) ∷
    row 414 0x00083a03 with (16, 0x60000eb9fe8b) => (20, 0x306caf438116da15) ∷
    row 415 0xfff63083 with (12, 0x600013214042) => (1, 0x9a6996aa3333cf92) ∷
    row 416 0x800eb783 with (29, 0x60003331621e) => (15, 0x8d30289dc0f99d36) ∷
    row 417 0x001cbc03 with (25, 0x60002eea4c21) => (24, 0x9c7d4f22a684302) ∷
    row 418 0x0000ba03 with (1, 0x6000064c164d) => (20, 0x8eed7d36f7fc0f4) ∷
    row 419 0xfff33903 with (6, 0x60003956b8a1) => (18, 0x982149159040170e) ∷
    row 420 0x7ffd3203 with (26, 0x6000080a2b1b) => (4, 0xf22fb1ce8ca9454f) ∷
    row 421 0xcc34be03 with (9, 0x6000326688f8) => (28, 0x4575f31464bb4bb8) ∷
    row 422 0x7fafbe83 with (31, 0x6000386ba889) => (29, 0xb21f20bb18762a48) ∷
    row 423 0x05233803 with (6, 0x60001a19b321) => (16, 0x11c5d2eea7d9e0ff) ∷
    row 424 0xacb2ba03 with (5, 0x6000177093bf) => (20, 0x9109c58312e66fdd) ∷
    row 425 0x7f0f3383 with (30, 0x6000307039d8) => (7, 0xfd10e8a4599bd6e2) ∷
    row 426 0xcefab983 with (21, 0x60002518d03f) => (19, 0x8eefa0267bfa160f) ∷
    row 427 0x76ecb903 with (25, 0x6000356a294d) => (18, 0xebaa4f1f7a012d63) ∷
    row 428 0x2a7b3d03 with (22, 0x6000216469c8) => (26, 0xabd0b0a553b11cdf) ∷
    row 429 0xc8a1b883 with (3, 0x6000290783c0) => (17, 0x1b26248c0909e481) ∷
    row 430 0x4d5db903 with (27, 0x60000c536778) => (18, 0xe7acf6ff9a0b844b) ∷
    row 431 0x1d4db603 with (27, 0x60000b482ea3) => (12, 0x699d2fd406b5fc3c) ∷
    row 432 0xa98ebe03 with (29, 0x600025e5d230) => (28, 0x428473354f094c55) ∷
    row 433 0xa3be3b83 with (28, 0x60001c2c4706) => (23, 0xd70f70f773057494) ∷
    row 434 0x681cb583 with (25, 0x60002e1b875f) => (11, 0x3676663072aa74fb) ∷
    row 435 0xee05bd83 with (11, 0x60001bb3b3c7) => (27, 0x637ce7f64df84d8a) ∷
    row 436 0x6235b503 with (11, 0x600024f4a973) => (10, 0xd57ea21d04eefe3f) ∷
    row 437 0x23623783 with (4, 0x600009de8275) => (15, 0xee594d0978e871c) ∷
    row 438 0x74b0bd03 with (1, 0x60000a712a9d) => (26, 0x938213e505d6e820) ∷
    row 439 0x1f613483 with (2, 0x600026acb556) => (9, 0xd94977864fc8214b) ∷
    row 440 0x81dabf03 with (21, 0x60001e911cbb) => (30, 0x7080bb887562329e) ∷
    []) ∷
    -- lbu
    group 0x0 (
    row 441 0x0008c383 with (17, 0x6000321e4a8a) => (7, 0x18) ∷
    row 442 0xfff24503 with (4, 0x600021545865) => (10, 0xb9) ∷
    row 443 0x7ff3cf03 with (7, 0x60002c333666) => (30, 0x81) ∷
    row 444 0x80094783 with (18, 0x600012bb048e) => (15, 0x71) ∷
    row 445 0x0014cd03 with (9, 0x600014eb92dc) => (26, 0x88) ∷
    row 446 0xfff5cf03 with (11, 0x600032c50155) => (30, 0xc6) ∷
    row 447 0x7ffa4e83 with (20, 0x60002c473ff4) => (29, 0x2c) ∷
    row 448 0x800bc383 with (23, 0x600001726eb8) => (7, 0xb9) ∷
    row 449 0x0012c803 with (5, 0x600032465da4) => (16, 0x6d) ∷
    row 450 0x00024903 with (4, 0x60003ec32cb9) => (18, 0x48) ∷
    row 451 0x7ff74383 with (14, 0x600026e8cbf6) => (7, 0x4b) ∷
    row 452 0x800d4083 with (26, 0x60002ab75b57) => (1, 0x74) ∷
    row 453 0x0010cc83 with (1, 0x60000a2eaae0) => (25, 0xc6) ∷
    row 454 0x0005c383 with (11, 0x6000054eda92) => (7, 0x3e) ∷
    row 455 0xfff2c583 with (5, 0x60001c17e26c) => (11, 0xde) ∷
    row 456 0x8007cc83 with (15, 0x60000e89ca6a) => (25, 0xa5) ∷
    row 457 0x0010ca83 with (1, 0x60001ca47a90) => (21, 0x93) ∷
    row 458 0x00054883 with (10, 0x600006680ae0) => (17, 0xa8) ∷
    row 459 0xffff4d83 with (30, 0x60000bd47356) => (27, 0xe5) ∷
    row 460 0x7ff84083 with (16, 0x60002ce9abf3) => (1, 0x49) ∷
    row 461 0x0f194103 with (18, 0x600029a7cbc5) => (2, 0xd4) ∷
    row 462 0x4d064883 with (12, 0x6000020eb8d1) => (17, 0x87) ∷
    row 463 0x3d474e03 with (14, 0x6000361e82e0) => (28, 0x61) ∷
    row 464 0x8bf2cb03 with (5, 0x600005d72f2f) => (22, 0x62) ∷
    row 465 0x83e64703 with (12, 0x60003138a911) => (14, 0x8a) ∷
    row 466 0xeda7ca03 with (15, 0x60003842f3fd) => (20, 0xda) ∷
    row 467 0xd7dfcd83 with (31, 0x60001af61f0a) => (27, 0x51) ∷
    row 468 0x2128c803 with (17, 0x600019521c4c) => (16, 0xef) ∷
    row 469 0x506d4d03 with (26, 0x60003356f356) => (26, 0xb5) ∷
    row 470 0x43754b83 with (10, 0x60002904a64b) => (23, 0xa1) ∷
    row 471 0xae194a03 with (18, 0x60003a5b39ee) => (20, 0xb5) ∷
    row 472 0x6b3d4b03 with (26, 0x6000275a9090) => (22, 0xf1) ∷
    row 473 0x1eb74983 with (14, 0x60003002cff3) => (19, 0x53) ∷
    row 474 0x56a6cd83 with (13, 0x60001453df37) => (27, 0xdd) ∷
    row 475 0x353f4783 with (30, 0x6000144dcc37) => (15, 0x8e) ∷
    row 476 0x8c064983 with (12, 0x60002ff099dc) => (19, 0x66) ∷
    row 477 0x89cac403 with (21, 0x6000273c3538) => (8, 0x66) ∷
    row 478 0xa57ccd83 with (25, 0x60003a30a6dd) => (27, 0x8d) ∷
    row 479 0x7d2ccc83 with (25, 0x600028cde4e9) => (25, 0xdb) ∷
    row 480 0x0fedc903 with (27, 0x600033140f6b) => (18, 0x51) ∷
    []) ∷
    -- lhu
    group 0x0 (
    row 481 0x000fda83 with (31, 0x600019030c3e) => (21, 0xf4ed) ∷
    row 482 0xfff45083 with (8, 0x60001a9ae03c) => (1, 0x7cb1) ∷
    row 483 0x7fffdb83 with (31, 0x600037db8460) => (23, 0xdc9d) ∷
    row 484 0x8000dc83 with (1, 0x600030c518aa) => (25, 0x14af) ∷
    row 485 0x001bda03 with (23, 0x600005576d1c) => (20, 0x24e9) ∷
    row 486 0xfffd5e83 with (26, 0x60003592a1b8) => (29, 0xd4a) ∷
    row 487 0x7ffbd183 with (23, 0x60000176a679) => (3, 0xcdd2) ∷
    row 488 0x8006dc03 with (13, 0x600029039b60) => (24, 0x6682) ∷
    row 489 0x001fd583 with (31, 0x60002c39506f) => (11, 0xd759) ∷
    row 490 0x00065783 with (12, 0x60000b17e5a7) => (15, 0x2057) ∷
    row 491 0x7ffddc83 with (27, 0x6000059f4b06) => (25, 0x417c) ∷
    row 492 0x800fdc03 with (31, 0x60001bcfa08b) => (24, 0x3ac9) ∷
    row 493 0x00155903 with (10, 0x60000da8b636) => (18, 0xc3d) ∷
    row 494 0x00085483 with (16, 0x60001b2aac0b) => (9, 0xb5d8) ∷
    row 495 0xfff9d283 with (19, 0x600004557a08) => (5, 0x379b) ∷
    row 496 0x800ad803 with (21, 0x600009292829) => (16, 0x9185) ∷
    row 497 0x00125d03 with (4, 0x600029a59e72) => (26, 0xc396) ∷
    row 498 0x000f5e83 with (30, 0x600025caf4e4) => (29, 0xcdce) ∷
    row 499 0xfffa5783 with (20, 0x60003d99237e) => (15, 0xb02e) ∷
    row 500 0x7ff9d103 with (19, 0x60003110223d) => (2, 0x6ab5) ∷
    row 501 0x0910dd03 with (1, 0x600000300892) => (26, 0xfd63) ∷
    row 502 0x62bc5883 with (24, 0x60002af8ba06) => (17, 0x6838) ∷
    row 503 0x5df6d803 with (13, 0x6000316a4988) => (16, 0xab35) ∷
    row 504 0x691f5d03 with (30, 0x60001384b033) => (26, 0xc659) ∷
    row 505 0xe2a85503 with (16, 0x60001147f81e) => (10, 0xb9a4) ∷
    row 506 0xc7d15683 with (2, 0x60002ab41176) => (13, 0x8517) ∷
    row 507 0x34dade03 with (21, 0x60001fc8fa78) => (28, 0x28b0) ∷
    row 508 0x7b51d303 with (3, 0x60003086be0a) => (6, 0xa471) ∷
    row 509 0x476f5603 with (30, 0x60001ced616a) => (12, 0xf85a) ∷
    row 510 0xa55dd003 with (27, 0x600024fce3d4) ∷
    row 511 0x92abd683 with (23, 0x600008b5356e) => (13, 0x28a0) ∷
    row 512 0xdd91d403 with (3, 0x600008165956) => (8, 0x4fe) ∷
    row 513 0x9382da83 with (5, 0x600023205eb5) => (21, 0xb984) ∷
    row 514 0x41925303 with (4, 0x600019d32cba) => (6, 0x4630) ∷
    row 515 0x91cd5483 with (26, 0x60002c2ee8c3) => (9, 0xab04) ∷
    row 516 0xf8a65503 with (12, 0x60001a336b89) => (10, 0xe800) ∷
    row 517 0x9cb35803 with (6, 0x600023e0d2a4) => (16, 0xfd22) ∷
    row 518 0xb2ee5a83 with (28, 0x600009370ac3) => (21, 0xea6c) ∷
    row 519 0x1d9cd183 with (25, 0x60000a3615c2) => (3, 0xafdd) ∷
    row 520 0x5298dc83 with (17, 0x600026ddfc43) => (25, 0x4d75) ∷
    []) ∷
    -- lwu
    group 0x0 (
    row 521 0x0002e583 with (5, 0x60001f2ec364) => (11, 0xec7dc335) ∷
    row 522 0xfffbe983 with (23, 0x600033285d85) => (19, 0x6e2d111c) ∷
    row 523 0x7ff66003 with (12, 0x600022cac7cc) ∷
    row 524 0x800fe303 with (31, 0x60002e162239) => (6, 0x486355f) ∷
    row 525 0x0019e883 with (19, 0x6000150a3cce) => (17, 0x19300bbc) ∷
    row 526 0xfff5e783 with (11, 0x600017a7378c) => (15, 0x982ba40) ∷
    row 527 0x7fff6183 with (30, 0x600035ed0270) => (3, 0xd57e40eb) ∷
    row 528 0x8000e783 with (1, 0x60002fdbbd7a) => (15, 0x7d229fbd) ∷
    row 529 0x0012ee83 with (5, 0x6000057338ac) => (29, 0x6fd6b7) ∷
    row 530 0x0000ef83 with (1, 0x600036b39407) => (31, 0x5f65e5d8) ∷
    row 531 0x7ffaee83 with (21, 0x6000039cbf89) => (29, 0x9a04cd20) ∷
    row 532 0x800ae303 with (21, 0x60002c2edb30) => (6, 0xb04c8c90) ∷
    row 533 0x0017ec03 with (15, 0x60003069b6ff) => (24, 0xa23d2427) ∷
    row 534 0x00066603 with (12, 0x6000104d72f7) => (12, 0x6fd693e5) ∷
    row 535 0xfff26403 with (4, 0x60000bda0716) => (8, 0x1918dbca) ∷
    row 536 0x80026883 with (4, 0x6000230f7b5a) => (17, 0x9e03fbd7) ∷
    row 537 0x001ae803 with (21, 0x600015edb7c6) => (16, 0xfe97f40b) ∷
    row 538 0x000ee083 with (29, 0x60002474d45b) => (1, 0x3ad4c466) ∷
    row 539 0xfff3ec03 with (7, 0x60000ea4c917) => (24, 0x52ba6ce9) ∷
    row 540 0x7ffb6e03 with (22, 0x6000147d8dfa) => (28, 0x4648ed92) ∷
    row 541 0xa7efe203 with (31, 0x600035ff4084) => (4, 0x15804663) ∷
    row 542 0x8d06ea83 with (13, 0x60003329bf63) => (21, 0xc060775c) ∷
    row 543 0x5c9be103 with (23, 0x60000bfd07c3) => (2, 0x46e9807b) ∷
    row 544 0x5a616303 with (2, 0x600000793565) => (6, 0xa91b61c2) ∷
    row 545 0x1defe183 with (31, 0x6000109e3ed4) => (3, 0xe6f61b30) ∷
    row 546 0x50a9e483 with (19, 0x60003c6c1976) => (9, 0x79acc5) ∷
    row 547 0x90bae903 with (21, 0x600003e2db6b) => (18, 0xf5a61682) ∷
    row 548 0x32c36f03 with (6, 0x600027025f66) => (30, 0xc67b5866) ∷
    row 549 0xc9d16883 with (2, 0x600025cacc39) => (17, 0x72f97271) ∷
    row 550 0x33f46f03 with (8, 0x6000003c0402) => (30, 0xfb2064a4) ∷
    row 551 0xbbf0e403 with (1, 0x600036562215) => (8, 0x5ef02efd) ∷
    row 552 0xc7fbe883 with (23, 0x60000819100f) => (17, 0x9e68d17e) ∷
    row 553 0xac3b6003 with (22, 0x60003584d8ac) ∷
    row 554 0xa9436603 with (6, 0x60003e9977e3) => (12, 0xb0549ef6) ∷
    row 555 0x08c6e083 with (13, 0x60002356e91b) => (1, 0x82c7c9ed) ∷
    row 556 0x7775e883 with (11, 0x600023bd3186) => (17, 0x30e3cd0b) ∷
    row 557 0x9d466d03 with (12, 0x60003fcc66a8) => (26, 0xbaa8a850) ∷
    row 558 0x4d63ea03 with (7, 0x600037845b4b) => (20, 0x20165bbd) ∷
    row 559 0xd2ffe603 with (31, 0x60000ae53abf) => (12, 0x612ce751) ∷
    row 560 0x29d86703 with (16, 0x600039eee544) => (14, 0x7dec4b0c) ∷
    []) ∷
    -- sb
    group 0x0 (
    row 561 0x00440023 with (8, 0x600004a16ffd) => (m1, 0x249c35d9765486a1) ∷
    row 562 0xff490fa3 with (18, 0x60002afcd040) => (m1, 0x4123c9964a659a2a) ∷
    row 563 0x7e0b8fa3 with (23, 0x60002d0100aa) => (m1, 0xae1e6bb3fa1f8700) ∷
    row 564 0x81918023 with (3, 0x60000aae213a) => (m1, 0xe5f5054885824b6f) ∷
    row 565 0x006100a3 with (2, 0x6000040401f1) => (m1, 0x569bd769ec8de850) ∷
    row 566 0xfecf8fa3 with (31, 0x60001902c2d3) => (m1, 0xa10d35ec2f425c28) ∷
    row 567 0x7f7b8fa3 with (23, 0x600009aa53da) => (m1, 0x1e1478fb4d9fa9da) ∷
    row 568 0x80bb8023 with (23, 0x600015fad507) => (m1, 0x7b209c6b47a5ceb4) ∷
    row 569 0x019a00a3 with (20, 0x60003df4165b) => (m1, 0x48850681d54cb7e) ∷
    row 570 0x01fe0023 with (28, 0x6000019637d9) => (m1, 0x742f38c5ceaca072) ∷
    row 571 0x7f3e8fa3 with (29, 0x600020e1297e) => (m1, 0xaeb2189a5bad4eca) ∷
    row 572 0x81788023 with (17, 0x60001bd50b48) => (m1, 0x8c390afbc456d3c7) ∷
    row 573 0x01ef00a3 with (30, 0x60003271ad39) => (m1, 0xd956afbe08a93139) ∷
    row 574 0x01b88023 with (17, 0x600024b72f54) => (m1, 0xc33e130d28a467ff) ∷
    row 575 0xffa90fa3 with (18, 0x600032a58996) => (m1, 0x22f67cbd24487572) ∷
    row 576 0x81040023 with (8, 0x60001c3cc3fd) => (m1, 0x193e50f9fb955bba) ∷
    row 577 0x00e300a3 with (6, 0x6000217cc68c) => (m1, 0x8b917f97ae8b1982) ∷
    row 578 0x011e8023 with (29, 0x60000265a943) => (m1, 0xc8c0a5ac3d29b030) ∷
    row 579 0xff378fa3 with (15, 0x60003ef76423) => (m1, 0x1327b84da7711fca) ∷
    row 580 0x7e438fa3 with (7, 0x60001731ef28) => (m1, 0x62f1a34fed61659e) ∷
    row 581 0x684a07a3 with (20, 0x60000b155bc5) => (m1, 0xb9b926df0efa840b) ∷
    row 582 0x21e58323 with (11, 0x60001aa1a3a1) => (m1, 0x1c1dd6cf0c3c7bd7) ∷
    row 583 0xa9a30423 with (6, 0x600005d6c69b) => (m1, 0x7f45cb4be5274ba3) ∷
    row 584 0xb9fe04a3 with (28, 0x60000cb4b93c) => (m1, 0xf445402999baf216) ∷
    row 585 0xca9086a3 with (1, 0x60002f3b83e2) => (m1, 0x3420ac7e29f772f3) ∷
    row 586 0xd34e8aa3 with (29, 0x60002d6b274b) => (m1, 0xeb67df5f95dcc9bd) ∷
    row 587 0x6e8601a3 with (12, 0x6000074399b5) => (m1, 0x3dde10a1dd6af932) ∷
    row 588 0x27708b23 with (1, 0x60003cc4f261) => (m1, 0x185b47100a20115) ∷
    row 589 0x90ac8d23 with (25, 0x60000def2824) => (m1, 0x6696aaa0ff81e1a0) ∷
    row 590 0xa5438623 with (7, 0x60003ac22b80) => (m1, 0x96839847da0a9a17) ∷
    row 591 0x4df30523 with (6, 0x6000033dfdb8) => (m1, 0xae4a7a7b903c2a2e) ∷
    row 592 0xf72f00a3 with (30, 0x60002762b7fd) => (m1, 0xf0d22d102216936a) ∷
    row 593 0x3dfa80a3 with (21, 0x6000273040a1) => (m1, 0x14f980318f99d429) ∷
    row 594 0x5cf68ea3 with (13, 0x600002a6a3b0) => (m1, 0x6a1bf7b3d8c5edf8) ∷
    row 595 0xbd198f23 with (19, 0x600039c5eb02) => (m1, 0x9aa3bbc2fd9adeb7) ∷
    row 596 0x2caf0c23 with (30, 0x60000c8df981) => (m1, 0x260f832fe18a7f8) ∷
    row 597 0x994808a3 with (16, 0x60003afef069) => (m1, 0x34fa2c19da3f489d) ∷
    row 598 0x7a6a84a3 with (21, 0x60000518a81a) => (m1, 0xb9a12e8d920ec23b) ∷
    row 599 0xf6b309a3 with (6, 0x60002adb4e3f) => (m1, 0xfed5276225871477) ∷
    row 600 0xa3378a23 with (15, 0x60002c46c995) => (m1, 0x8fdc9ac394a83ebd) ∷
    []) ∷
    -- sh
    group 0x0 (
    row 601 0x00549023 with (9, 0x6000095b1207) => (m1, 0xe7ab5885df728fbe) ∷
    row 602 0xfef49fa3 with (9, 0x60000218386d) => (m1, 0x85133cd505e5052d) ∷
    row 603 0x7e1c1fa3 with (24, 0x6000167e2efa) => (m1, 0xef7cbf850800a066) ∷
    row 604 0x81771023 with (14, 0x6000068d15ad) => (m1, 0x24c239abe5c573a8) ∷
    row 605 0x00bc90a3 with (25, 0x60001244bc87) => (m1, 0x16495c5f9f32ab49) ∷
    row 606 0xff741fa3 with (8, 0x600039a5438b) => (m1, 0x5e299b743448741d) ∷
    row 607 0x7ffd1fa3 with (26, 0x60003cae9ab5) => (m1, 0x5c112f15a508d332) ∷
    row 608 0x80ac1023 with (24, 0x60001b60e205) => (m1, 0xb68c3317f16fb67a) ∷
    row 609 0x010d90a3 with (27, 0x600015bbe97c) => (m1, 0xc0d437a7198002f6) ∷
    row 610 0x002a9023 with (21, 0x60002bbfd11c) => (m1, 0x2dea00971d3a8a20) ∷
    row 611 0x7f1f9fa3 with (31, 0x60001d6c88e4) => (m1, 0x65dbc0fdfc9c5d6a) ∷
    row 612 0x80f31023 with (6, 0x60002ac230d1) => (m1, 0xc44303f1b7a826fc) ∷
    row 613 0x00c810a3 with (16, 0x600013c098e6) => (m1, 0xecf89464e5c8ca4) ∷
    row 614 0x018e1023 with (28, 0x60001867e123) => (m1, 0x79973d27c0b95c83) ∷
    row 615 0xfe849fa3 with (9, 0x600038b80188) => (m1, 0xd6be876a0ebf6dcd) ∷
    row 616 0x80691023 with (18, 0x600034b10212) => (m1, 0x4de6ac39386dd381) ∷
    row 617 0x00ed90a3 with (27, 0x60000c52cac3) => (m1, 0xbda8bb693dc57f9e) ∷
    row 618 0x01d39023 with (7, 0x60003f9d739e) => (m1, 0xf846c2101ec5d97c) ∷
    row 619 0xff1d1fa3 with (26, 0x60000e90f4a0) => (m1, 0xc38e2543db6e42fd) ∷
    row 620 0x7e409fa3 with (1, 0x6000392d45c8) => (m1, 0x10c6f0d873c07765) ∷
    row 621 0xe29d9da3 with (27, 0x60003f7280dc) => (m1, 0xe86ec4f9e7bbce99) ∷
    row 622 0x27189ba3 with (17, 0x600021608616) => (m1, 0x4842557c375f8616) ∷
    row 623 0x2eef9ba3 with (31, 0x60001ef76735) => (m1, 0x72f1dd7562ace134) ∷
    row 624 0x6bfd1223 with (26, 0x600038371d4d) => (m1, 0x9eb8effb69a1414e) ∷
    row 625 0xee9c1d23 with (24, 0x60002d1fb6e3) => (m1, 0xdc033ce24c3fab47) ∷
    row 626 0x81359d23 with (11, 0x60003db127d7) => (m1, 0x142ac0560a86a4cb) ∷
    row 627 0x08029323 with (5, 0x600029eb61a6) => (m1, 0x640fd22aa4760000) ∷
    row 628 0x09e19ba3 with (3, 0x600031ce7bf8) => (m1, 0xa897c68c1a0fec42) ∷
    row 629 0xfa7118a3 with (2, 0x6000155a6f67) => (m1, 0xb179d4e6b5199aa) ∷
    row 630 0xd11c1ea3 with (24, 0x6000148f3cac) => (m1, 0x38736b87983bdab0) ∷
    row 631 0x743a92a3 with (21, 0x60002f6cd55c) => (m1, 0xd11a9e4da0cfda72) ∷
    row 632 0xccdd95a3 with (27, 0x600025f35ad6) => (m1, 0x11113174850b06e7) ∷
    row 633 0x8d641c23 with (8, 0x60003822b1f0) => (m1, 0xb618d52844f03d8b) ∷
    row 634 0x9bb31923 with (6, 0x600025fadc64) => (m1, 0x8aa2d3ce07e862f) ∷
    row 635 0x00991b23 with (18, 0x60002f7bd975) => (m1, 0xba1241de57b46db5) ∷
    row 636 0xb1b79ba3 with (15, 0x600014a5ba10) => (m1, 0x1f3e5ee0aa947699) ∷
    row 637 0x91d31923 with (6, 0x600015786fd9) => (m1, 0x4f467359d91c03ad) ∷
    row 638 0x2da79023 with (15, 0x600031f3f216) => (m1, 0x54cdc65fe34e3ff5) ∷
    row 639 0xf4211b23 with (2, 0x60002a185993) => (m1, 0x97709fc6c9285993) ∷
    row 640 0x986b1023 with (22, 0x60003de59ba2) => (m1, 0xa95863ba8aabd530) ∷
    []) ∷
    -- sw
    group 0x0 (
    row 641 0x01c9a023 with (19, 0x60002d5ba983) => (m1, 0xfe96020f359d7431) ∷
    row 642 0xfe73afa3 with (7, 0x6000387a960c) => (m1, 0x1cde36f0387a960c) ∷
    row 643 0x7facafa3 with (25, 0x60001f4252bc) => (m1, 0x84b69a326a0204ff) ∷
    row 644 0x8015a023 with (11, 0x600021b2ff91) => (m1, 0xb76af4ecc583308c) ∷
    row 645 0x01f620a3 with (12, 0x60003fcc6c8e) => (m1, 0x29d268323cfb2700) ∷
    row 646 0xff5e2fa3 with (28, 0x6000398eb9b6) => (m1, 0x6f2187d95c21da38) ∷
    row 647 0x7f3eafa3 with (29, 0x60000ef9d702) => (m1, 0xede96c0c612acc27) ∷
    row 648 0x8086a023 with (13, 0x6000000de475) => (m1, 0x45d350a1186f5d90) ∷
    row 649 0x0183a0a3 with (7, 0x60000ccab20f) => (m1, 0x68992cace5509c5d) ∷
    row 650 0x017a2023 with (20, 0x600035305fd2) => (m1, 0x3b804f4505a4f970) ∷
    row 651 0x7e552fa3 with (10, 0x6000393eddbd) => (m1, 0x70e0f03e3857945b) ∷
    row 652 0x8041a023 with (3, 0x600018f64bcd) => (m1, 0x502883c4cdcb1589) ∷
    row 653 0x003ca0a3 with (25, 0x600014567a04) => (m1, 0x9823e9aba8a6f8d7) ∷
    row 654 0x019aa023 with (21, 0x60002b5f8864) => (m1, 0x83cbee1f354b9743) ∷
    row 655 0xfe15afa3 with (11, 0x60001e116eec) => (m1, 0xde6218f32e97e5d3) ∷
    row 656 0x80dea023 with (29, 0x60002c6c3599) => (m1, 0x3d43b3fadd11158) ∷
    row 657 0x0130a0a3 with (1, 0x6000166fc46d) => (m1, 0x439b7e170c7344c5) ∷
    row 658 0x018d2023 with (26, 0x60001c1c336b) => (m1, 0x7ba86550c6491cfc) ∷
    row 659 0xfe89afa3 with (19, 0x60003d717a90) => (m1, 0xc7d01916029b029b) ∷
    row 660 0x7fd3afa3 with (7, 0x60003a6f91db) => (m1, 0x1277c53de352d2f1) ∷
    row 661 0xe5fb25a3 with (22, 0x600013169301) => (m1, 0x6affe9f161880c8e) ∷
    row 662 0x4718a5a3 with (17, 0x600007665c7b) => (m1, 0xc8425b0607665c7b) ∷
    row 663 0x6e4e28a3 with (28, 0x6000175f01b5) => (m1, 0xf060c3910b3adc2e) ∷
    row 664 0x57bb2023 with (22, 0x60000300832f) => (m1, 0x9d0826aa23db3cdf) ∷
    row 665 0x3a3a2523 with (20, 0x60000a4adcf4) => (m1, 0xd7c15423cb3fd45a) ∷
    row 666 0xda3ea523 with (29, 0x60002d3e132b) => (m1, 0x90c928293740b8fa) ∷
    row 667 0x9a872323 with (14, 0x60002bda1f8d) => (m1, 0xde1d1a90cbc3a64b) ∷
    row 668 0x4ebca4a3 with (25, 0x6000061ef4cf) => (m1, 0xa3855f84eda1b7d2) ∷
    row 669 0xb3c9ad23 with (19, 0x60003c0cb72a) => (m1, 0x37416d8c26fe795) ∷
    row 670 0x2ebc2f23 with (24, 0x60000da3403a) => (m1, 0x2e3ec5a434fbf7a6) ∷
    row 671 0x51dfa823 with (31, 0x60003ae2a723) => (m1, 0x47c648fc50c34748) ∷
    row 672 0xc0dc2c23 with (24, 0x600003caf13d) => (m1, 0x852bbcb51f549eba) ∷
    row 673 0xf40b20a3 with (22, 0x6000285c075e) => (m1, 0xab13b0fb00000000) ∷
    row 674 0x0b96a823 with (13, 0x60002895f760) => (m1, 0xfb13e9a2311e52a2) ∷
    row 675 0xee27a223 with (15, 0x60000478c2c4) => (m1, 0x15f019c0e01f6a67) ∷
    row 676 0x99d6a9a3 with (13, 0x60003c0469d4) => (m1, 0x8ff74c6b1ab5424c) ∷
    row 677 0xe5ab2923 with (22, 0x60000f38defc) => (m1, 0xbd6e417660c841c6) ∷
    row 678 0x2ff0ab23 with (1, 0x60003e162c66) => (m1, 0x43d5e50fe6de977d) ∷
    row 679 0x3f1cada3 with (25, 0x6000089c5596) => (m1, 0x83e79f0825e4f5c1) ∷
    row 680 0xaae6a823 with (13, 0x60002ecb613e) => (m1, 0x16afb38e8ba487b4) ∷
    []) ∷
    -- sd
    group 0x0 (
    row 681 0x00df3023 with (30, 0x600030a33671) => (m1, 0x93b035b5a6e19b83) ∷
    row 682 0xfe91bfa3 with (3, 0x60000e23e91d) => (m1, 0x2d28b5fad4d79aa1) ∷
    row 683 0x7e053fa3 with (10, 0x6000074d6bf0) => (m1, 0) ∷
    row 684 0x81bf3023 with (30, 0x60001c1fdee8) => (m1, 0xf75cfd484de938b2) ∷
    row 685 0x004930a3 with (18, 0x60000c9b1208) => (m1, 0x326e0495fe84e926) ∷
    row 686 0xff64bfa3 with (9, 0x600018bf2552) => (m1, 0x2ac81298085b3c0a) ∷
    row 687 0x7e85bfa3 with (11, 0x6000008c08c2) => (m1, 0x9e89cc5b0355aa79) ∷
    row 688 0x816b3023 with (22, 0x60000401dc57) => (m1, 0x60000401dc57) ∷
    row 689 0x00dd30a3 with (26, 0x600023207014) => (m1, 0xb2b682a606713bf9) ∷
    row 690 0x01993023 with (18, 0x60001de7e3fa) => (m1, 0xaa6eed9de553ae50) ∷
    row 691 0x7f3a3fa3 with (20, 0x600034582808) => (m1, 0xa6927771f0f4719d) ∷
    row 692 0x816cb023 with (25, 0x600026715c3b) => (m1, 0x8acec17c7a30d5aa) ∷
    row 693 0x0174b0a3 with (9, 0x600034335095) => (m1, 0xaaff2ba4d3e06df2) ∷
    row 694 0x01e0b023 with (1, 0x60001d9e2518) => (m1, 0xa239f112f4846872) ∷
    row 695 0xfe613fa3 with (2, 0x600022b1d1c2) => (m1, 0xde5edc3ddb0ca7a5) ∷
    row 696 0x81f33023 with (6, 0x6000036e5e92) => (m1, 0x102865858fa1d79f) ∷
    row 697 0x0067b0a3 with (15, 0x60003fd3b389) => (m1, 0xb7cb5a61d36fe751) ∷
    row 698 0x00b53023 with (10, 0x600017e1e8aa) => (m1, 0x3fb47bb7cee15b1) ∷
    row 699 0xffe9bfa3 with (19, 0x60000b98f5f1) => (m1, 0x7bec75bdbd99c953) ∷
    row 700 0x7e7bbfa3 with (23, 0x60001af8d35f) => (m1, 0x4dd6f5b0f09d5ecd) ∷
    row 701 0x89ceb1a3 with (29, 0x60000601a070) => (m1, 0xd99649f41c8afeb8) ∷
    row 702 0xbde636a3 with (12, 0x60000cb332e3) => (m1, 0xae06e9e5b55d8bb2) ∷
    row 703 0x1d05b723 with (11, 0x60002f0d9ac5) => (m1, 0x70e9e477dd8eec55) ∷
    row 704 0x37f8bfa3 with (17, 0x60002d10df1f) => (m1, 0xf80f6dc1e5c414) ∷
    row 705 0x8f63b123 with (7, 0x600006bd07ef) => (m1, 0xbb9e7201be1e9421) ∷
    row 706 0x53d5b923 with (11, 0x60003c11f1f8) => (m1, 0xe71a4784fa46cef) ∷
    row 707 0x0d1cb4a3 with (25, 0x60000d0fc4e2) => (m1, 0x86fe5db4a832a84e) ∷
    row 708 0x5bed3c23 with (26, 0x600039b6669b) => (m1, 0x3f61f7becfb3dc93) ∷
    row 709 0x5278b423 with (17, 0x60000205e5fa) => (m1, 0x14c2bba2a00984a6) ∷
    row 710 0xd0a53aa3 with (10, 0x600025fe4504) => (m1, 0x600025fe4504) ∷
    row 711 0x0fb9b1a3 with (19, 0x6000259f7054) => (m1, 0x660a9e3be7de3d32) ∷
    row 712 0x16b6b823 with (13, 0x600000e9770c) => (m1, 0xeecc302de4cf61d0) ∷
    row 713 0xdccd30a3 with (26, 0x600037dc5a28) => (m1, 0xa34563a1d34d5c81) ∷
    row 714 0x6f2cb123 with (25, 0x60000a78089a) => (m1, 0x712d50a6605672a4) ∷
    row 715 0xb63e3223 with (28, 0x600038bca3d3) => (m1, 0xa8e158d2fe5ecf6c) ∷
    row 716 0x325bb923 with (23, 0x600002aa03e7) => (m1, 0x5f32119de9c9421a) ∷
    row 717 0xbe6735a3 with (14, 0x600028404b38) => (m1, 0x7b4519124c6a25c3) ∷
    row 718 0x935e3e23 with (28, 0x6000297f6618) => (m1, 0x87c1771fcff40398) ∷
    row 719 0xe264b0a3 with (9, 0x60000667518b) => (m1, 0xf27786a805d28c2e) ∷
    row 720 0xf3f436a3 with (8, 0x60003ef818fe) => (m1, 0x537ecc8ee50fba73) ∷
    []) ∷
    -- flw
    group 0x0 (
    row 721 0x00092c87 with (18, 0x60001331b8d2) => (57, 0xffffffff56752c49) ∷
    row 722 0xfff92407 with (18, 0x6000031431a1) => (40, 0xffffffff740d58de) ∷
    row 723 0x7ffb2c87 with (22, 0x60000e9f7a96) => (57, 0xffffffff6d4e5d9a) ∷
    row 724 0x80032187 with (6, 0x600035d3b3b1) => (35, 0xffffffff42383a7e) ∷
    row 725 0x001fa787 with (31, 0x600038b0acf4) => (47, 0xfffffffff2caef89) ∷
    row 726 0xfff92587 with (18, 0x600017368661) => (43, 0xffffffff7f067cbb) ∷
    row 727 0x7ffb2007 with (22, 0x600011652ff3) => (32, 0xffffffffe6eae214) ∷
    row 728 0x8001a887 with (3, 0x6000273cc9ac) => (49, 0xffffffff2a781f95) ∷
    row 729 0x001d2887 with (26, 0x600018bd238b) => (49, 0xffffffff49ae353d) ∷
    row 730 0x00072487 with (14, 0x600025e65d94) => (41, 0xffffffff448d230c) ∷
    row 731 0x7ff3a407 with (7, 0x60000eb867c5) => (40, 0xffffffff1b14e903) ∷
    row 732 0x80012487 with (2, 0x60001333621a) => (41, 0xffffffffcd458721) ∷
    row 733 0x001e2807 with (28, 0x600033571c97) => (48, 0xffffffff5b1efd66) ∷
    row 734 0x000ba007 with (23, 0x60002f23b73d) => (32, 0xffffffffc4a14bd2) ∷
    row 735 0xfff32c87 with (6, 0x600006992a0b) => (57, 0xffffffff09cc7266) ∷
    row 736 0x800dac07 with (27, 0x600039b77cfd) => (56, 0xffffffff2aa07121) ∷
    row 737 0x0012ad07 with (5, 0x6000087e9817) => (58, 0xffffffff271d4803) ∷
    row 738 0x0008a887 with (17, 0x600032ee935a) => (49, 0xffffffffff42f70c) ∷
    row 739 0xfff42607 with (8, 0x6000390766c5) => (44, 0xffffffffb3117e3d) ∷
    row 740 0x7ffc2907 with (24, 0x60001ac90a56) => (50, 0xffffffff4288dd95) ∷
    row 741 0x74af2e07 with (30, 0x600018338ec3) => (60, 0xffffffffada91514) ∷
    row 742 0xd8b9ae07 with (19, 0x60003146f461) => (60, 0xfffffffff47224bb) ∷
    row 743 0x4826a107 with (13, 0x600026032171) => (34, 0xffffffff16e40c89) ∷
    row 744 0xd4342f87 with (8, 0x6000366834dd) => (63, 0xffffffff14fecc7e) ∷
    row 745 0x8e37ae07 with (15, 0x600022761d92) => (60, 0xffffffffeec2649a) ∷
    row 746 0x7adca607 with (25, 0x60002a2ccb45) => (44, 0xffffffffa42ed4de) ∷
    row 747 0x409b2b87 with (22, 0x60000d8c638c) => (55, 0xffffffff35441d48) ∷
    row 748 0x2c57a307 with (15, 0x60000c94d19b) => (38, 0xffffffffa2023ddb) ∷
    row 749 0xef622787 with (4, 0x600027461a5d) => (47, 0xffffffffea693694) ∷
    row 750 0x10e9a307 with (19, 0x60001da0355e) => (38, 0xffffffff0e790775) ∷
    row 751 0xa7aea907 with (29, 0x60002fa33133) => (50, 0xffffffff0e31b07d) ∷
    row 752 0xf41bad07 with (23, 0x60001d4ef9d4) => (58, 0xffffffffe99331ac) ∷
    row 753 0x114f2f87 with (30, 0x600026a39d90) => (63, 0xffffffffa09d8b02) ∷
    row 754 0xb08f2a07 with (30, 0x60000ba12153) => (52, 0xffffffff3350bc80) ∷
    row 755 0x4670a987 with (1, 0x60000c476dd1) => (51, 0xffffffffa1acc625) ∷
    row 756 0xc0eb2307 with (22, 0x60002896a430) => (38, 0xffffffffebb1a7f2) ∷
    row 757 0x0369a187 with (19, 0x6000208ea634) => (35, 0xffffffff115f61e5) ∷
    row 758 0xc6892107 with (18, 0x6000342f8856) => (34, 0xffffffff12b5f400) ∷
    row 759 0xbc46ae87 with (13, 0x600023793f74) => (61, 0xffffffffefb55e42) ∷
    row 760 0x62a12207 with (2, 0x60002e6bc3b1) => (36, 0xffffffffa85da0ac) ∷
    []) ∷
    -- fld
    group 0x0 (
    row 761 0x000f3307 with (30, 0x6000150730a4) => (38, 0x3a7b27d83caebb3c) ∷
    row 762 0xfff4be87 with (9, 0x6000174b6f96) => (61, 0x52e15f5aaca8adf4) ∷
    row 763 0x7ffebe07 with (29, 0x600035387eae) => (60, 0x3b895369f84b78d3) ∷
    row 764 0x8005be87 with (11, 0x60002ece7dec) => (61, 0x668a4fda1f971bda) ∷
    row 765 0x0014b187 with (9, 0x6000040d3d52) => (35, 0x5b92b4d7228b9708) ∷
    row 766 0xfff63c87 with (12, 0x600034f4dce1) => (57, 0x992e76350128ea5d) ∷
    row 767 0x7ff13d87 with (2, 0x600001854c96) => (59, 0xa1a62f09bb6f15d9) ∷
    row 768 0x80023607 with (4, 0x600029beac72) => (44, 0xeacdd26b515e197d) ∷
    row 769 0x00113607 with (2, 0x60002da0cc74) => (44, 0x5e0502dc2f5f548) ∷
    row 770 0x00063f07 with (12, 0x60000d2bcca0) => (62, 0x5b68647d1036a93a) ∷
    row 771 0x7ffe3107 with (28, 0x6000085f9cf3) => (34, 0x8915a72d39203553) ∷
    row 772 0x800cb887 with (25, 0x60001f3c5d6c) => (49, 0xeafe2c6a3db29994) ∷
    row 773 0x0013ba87 with (7, 0x600011c1de0c) => (53, 0x2b4634081dedd5fc) ∷
    row 774 0x0006b207 with (13, 0x60001ff03ed5) => (36, 0x366a331cd9d1ea8b) ∷
    row 775 0xfff1b007 with (3, 0x600009c777c5) => (32, 0xec71f6be715ed741) ∷
    row 776 0x800ab187 with (21, 0x60000f4790da) => (35, 0xa30bac0e4949c1f) ∷
    row 777 0x0017b687 with (15, 0x600030707217) => (45, 0xcc98ef5033733924) ∷
    row 778 0x00073107 with (14, 0x60002d42337d) => (34, 0xfcf278405dfaae50) ∷
    row 779 0xfff73c87 with (14, 0x600005bccd0b) => (57, 0xcbbb1dbd642afba4) ∷
    row 780 0x7fffb907 with (31, 0x600039e036be) => (50, 0xeaf6b9b4604211f) ∷
    row 781 0xd751b187 with (3, 0x600009ac8b23) => (35, 0x1c7fb0f003861ec1) ∷
    row 782 0x02a2b787 with (5, 0x60003521aa70) => (47, 0x3f6794d19cb0f48a) ∷
    row 783 0x05c93d87 with (18, 0x60003c3fa468) => (59, 0x5fd29f141184a27b) ∷
    row 784 0x09813107 with (2, 0x60001f06767c) => (34, 0x8f1af3e362012893) ∷
    row 785 0x90b0b007 with (1, 0x60001d762881) => (32, 0xc220c3138e2686d2) ∷
    row 786 0x612b3907 with (22, 0x6000378e9e19) => (50, 0xc00289ba95f4bd39) ∷
    row 787 0x62583e07 with (16, 0x60002d4ff8cd) => (60, 0x436a1cee796bcbc6) ∷
    row 788 0xdf27b887 with (15, 0x60003eba33ee) => (49, 0x53e6a883388bb27b) ∷
    row 789 0x61e2b307 with (5, 0x60002bcd36d7) => (38, 0xe3aeaca4d3547158) ∷
    row 790 0xb6183d87 with (16, 0x6000348924d0) => (59, 0x6c5fd2749c6085b) ∷
    row 791 0x8d443787 with (8, 0x600018ede2c1) => (47, 0xa2ee72369be07786) ∷
    row 792 0x62b53487 with (10, 0x600018fb68f5) => (41, 0xd8a087a6c9a3bed8) ∷
    row 793 0x8f673507 with (14, 0x600034b1e1dc) => (42, 0xd92e948dd30fde51) ∷
    row 794 0x56113e87 with (2, 0x60002c11194a) => (61, 0xc9764801b824d5f2) ∷
    row 795 0x11523187 with (4, 0x60003f193997) => (35, 0xdc9f19d678e2a5ba) ∷
    row 796 0x32b0be87 with (1, 0x60002dca2ba9) => (61, 0xd9473e3815494da9) ∷
    row 797 0x5d92b207 with (5, 0x60003823f54a) => (36, 0xff0ad4fa8d58cdc0) ∷
    row 798 0x6fb7b907 with (15, 0x60001e26989e) => (50, 0x8136a49e11125fd) ∷
    row 799 0xf44b3e87 with (22, 0x60001fd21cf3) => (61, 0x4071c5fa10725662) ∷
    row 800 0x5f783f07 with (16, 0x60003d266b05) => (62, 0x43ac19211b7c5eee) ∷
    []) ∷
    -- fsw
    group 0x0 (
    row 801 0x00a9a027 with (19, 0x600036239de8) => (m1, 0xa0d3ecd542c2f934) ∷
    row 802 0xff7c2fa7 with (24, 0x60000ac9a2fd) => (m1, 0xb6a904e91423de26) ∷
    row 803 0x7eee2fa7 with (28, 0x60003b187838) => (m1, 0x2031498bfe823252) ∷
    row 804 0x80062027 with (12, 0x600007103d99) => (m1, 0x48a1268d34c49a4f) ∷
    row 805 0x009c20a7 with (24, 0x60002eb0c321) => (m1, 0xbe89dc1ddee34837) ∷
    row 806 0xfef9afa7 with (19, 0x600031fa28d4) => (m1, 0xf9947e0d8fe98bcb) ∷
    row 807 0x7f262fa7 with (12, 0x600010ec5eac) => (m1, 0xff7b1774a70c1fd5) ∷
    row 808 0x80e42027 with (8, 0x60000b8784aa) => (m1, 0xc9830b688eb0825a) ∷
    row 809 0x0169a0a7 with (19, 0x600021cb6ad0) => (m1, 0xe20469bd2fe351aa) ∷
    row 810 0x0080a027 with (1, 0x600013b8311e) => (m1, 0xb86cce9efee4908a) ∷
    row 811 0x7f082fa7 with (16, 0x6000214dc794) => (m1, 0xe388f1e195b478f2) ∷
    row 812 0x80ae2027 with (28, 0x60000a8c4e30) => (m1, 0xc651c7b0e8dc5436) ∷
    row 813 0x015620a7 with (12, 0x60000f7394f2) => (m1, 0x408afe0b9debb72) ∷
    row 814 0x00f5a027 with (11, 0x60003003bbde) => (m1, 0xc9b8f874468eb52) ∷
    row 815 0xff1f2fa7 with (30, 0x60002c3cbaf1) => (m1, 0x4383a3bb8ea0138f) ∷
    row 816 0x804aa027 with (21, 0x6000041e9a2a) => (m1, 0x5eb1485098de6747) ∷
    row 817 0x00b420a7 with (8, 0x600037a94189) => (m1, 0xa1f9cd7224d0c3a0) ∷
    row 818 0x01152027 with (10, 0x600006dcc912) => (m1, 0xcfc236f496d24371) ∷
    row 819 0xff4fafa7 with (31, 0x600031b928c2) => (m1, 0xc86697edab432f5d) ∷
    row 820 0x7e782fa7 with (16, 0x6000383e5899) => (m1, 0x5fce5b7410fe1b99) ∷
    row 821 0x2d1525a7 with (10, 0x60001a6c6dca) => (m1, 0x6b0d815b57f40cb4) ∷
    row 822 0x9fb420a7 with (8, 0x600018435ed9) => (m1, 0xed5b5cfee29d4ce) ∷
    row 823 0xb377aca7 with (15, 0x600031c31dce) => (m1, 0x2cafa0a3ba395ad2) ∷
    row 824 0xe92e2527 with (28, 0x600026ebb2f0) => (m1, 0xdcd84605ce88603c) ∷
    row 825 0xc3e7a2a7 with (15, 0x600037bd25f0) => (m1, 0xd4cf5c88961a735) ∷
    row 826 0x8a78a1a7 with (17, 0x600024377234) => (m1, 0x89d9d01bc9fd6ae) ∷
    row 827 0x3a752fa7 with (10, 0x60002c5a8801) => (m1, 0xce580c704b46a66) ∷
    row 828 0x61482ba7 with (16, 0x600010267eba) => (m1, 0x1ad0ecee5b91bf77) ∷
    row 829 0xcba92f27 with (18, 0x60000f9b594b) => (m1, 0x2b7941a2834155e9) ∷
    row 830 0x141e2027 with (28, 0x60002ab8fe28) => (m1, 0x4bff72b70d8d5326) ∷
    row 831 0x93c32227 with (6, 0x6000217f87cb) => (m1, 0x69083859b07ee1a4) ∷
    row 832 0xb75e2927 with (28, 0x600033eedf2a) => (m1, 0x9c292e5b5d82f704) ∷
    row 833 0x8e57a8a7 with (15, 0x600022071380) => (m1, 0x9a261bd4413f971d) ∷
    row 834 0x0d99a7a7 with (19, 0x60002bc8159f) => (m1, 0xb4e1fdb1dda95f0) ∷
    row 835 0xc2d6ac27 with (13, 0x60001131fc59) => (m1, 0x1be5d24258e5fe0e) ∷
    row 836 0x0bc62d27 with (12, 0x60001244b222) => (m1, 0x996e4736e1139241) ∷
    row 837 0xa0282927 with (16, 0x60002f004b3c) => (m1, 0xbca0be8a1fa1d28b) ∷
    row 838 0x4329a8a7 with (19, 0x60002764abb6) => (m1, 0x4689a46c4e5937fa) ∷
    row 839 0xc5a82327 with (16, 0x60003b71f662) => (m1, 0x7c56e0afe58dbf05) ∷
    row 840 0x41e92f27 with (18, 0x60002b280972) => (m1, 0x7d00146829f8d814) ∷
    []) ∷
    -- fsd
    group 0x0 (
    row 841 0x01fe3027 with (28, 0x60003687009f) => (m1, 0x4d8704317527b82f) ∷
    row 842 0xff7e3fa7 with (28, 0x60001d8ecbd6) => (m1, 0x13ab399a09c9139f) ∷
    row 843 0x7fe7bfa7 with (15, 0x6000203f6734) => (m1, 0xc35c3026a8191465) ∷
    row 844 0x8090b027 with (1, 0x60003e98f2b8) => (m1, 0xc50bb5f223815f18) ∷
    row 845 0x009ab0a7 with (21, 0x6000389b3e63) => (m1, 0x909f025bcb2c7742) ∷
    row 846 0xfe38bfa7 with (17, 0x60000e466a39) => (m1, 0xd800271bad34e749) ∷
    row 847 0x7e39bfa7 with (19, 0x60003f9a6633) => (m1, 0x3c028886430bbab2) ∷
    row 848 0x813b3027 with (22, 0x60000c975255) => (m1, 0x682e1cfe3dee7c28) ∷
    row 849 0x01be30a7 with (28, 0x6000353cfe9d) => (m1, 0x3c572e55c0f2be67) ∷
    row 850 0x011fb027 with (31, 0x6000398b8b0e) => (m1, 0xcf3f30771a426d69) ∷
    row 851 0x7e153fa7 with (10, 0x60001982e7a7) => (m1, 0xbcb06349bb0893ee) ∷
    row 852 0x81b4b027 with (9, 0x600015233465) => (m1, 0x782b29e53c28d743) ∷
    row 853 0x01d730a7 with (14, 0x60002c6c414b) => (m1, 0xedc8c45f3016b775) ∷
    row 854 0x003bb027 with (23, 0x60001f5e2e5a) => (m1, 0xbf7cf936626326d9) ∷
    row 855 0xff66bfa7 with (13, 0x60002df8f38f) => (m1, 0xab406b4b95809216) ∷
    row 856 0x80933027 with (6, 0x6000183c98eb) => (m1, 0x37148ce8a10e3b3a) ∷
    row 857 0x012bb0a7 with (23, 0x60001e29066d) => (m1, 0x31b8b2d00d5dec49) ∷
    row 858 0x0058b027 with (17, 0x60003fbe5419) => (m1, 0xc9cadb6aa6a41ab3) ∷
    row 859 0xff41bfa7 with (3, 0x60003cfc79ec) => (m1, 0xa2a91f87626f67d4) ∷
    row 860 0x7f333fa7 with (6, 0x600015e36fe5) => (m1, 0x7f9e2689a21b04fa) ∷
    row 861 0x87d2bca7 with (5, 0x60000a73558c) => (m1, 0xecceebbe84ad6f3c) ∷
    row 862 0xe416b4a7 with (13, 0x60001aabfe04) => (m1, 0x52ff897a56f007b8) ∷
    row 863 0xc9793f27 with (18, 0x6000068d861e) => (m1, 0x85e5ca6171e3d126) ∷
    row 864 0x870a3527 with (20, 0x60000e17e8e8) => (m1, 0x1f8e1fc836c4ea29) ∷
    row 865 0xd0acb9a7 with (25, 0x6000314b1afd) => (m1, 0x3f73588d5f05c90f) ∷
    row 866 0x3a34bca7 with (9, 0x60003027233c) => (m1, 0x4ac8e7b6694dd899) ∷
    row 867 0x42ebb7a7 with (23, 0x60000aac09d2) => (m1, 0x641d8b28cad9edf6) ∷
    row 868 0xd6af3aa7 with (30, 0x600000d9cfbf) => (m1, 0xc98043815c21c638) ∷
    row 869 0x62b639a7 with (12, 0x600012b05e5c) => (m1, 0xe423fa2e8f5c682e) ∷
    row 870 0x2597b7a7 with (15, 0x6000002fd1c2) => (m1, 0x677a7308cc39dbbb) ∷
    row 871 0xe8d7b427 with (15, 0x600009581d33) => (m1, 0xcb7dc2945856bc9d) ∷
    row 872 0x9c0334a7 with (6, 0x60002e2941c2) => (m1, 0xf91a3b5857922d27) ∷
    row 873 0x651ab927 with (21, 0x60002ea32d31) => (m1, 0x29aca781765189a) ∷
    row 874 0x7c5e3127 with (28, 0x60000ac5fbe0) => (m1, 0xb0878260954ddc1d) ∷
    row 875 0x53c5b7a7 with (11, 0x60000291a6b9) => (m1, 0xe67599ab8fe63442) ∷
    row 876 0x0c50bba7 with (1, 0x600016062b7f) => (m1, 0xff92394a8502470d) ∷
    row 877 0xb2cc3c27 with (24, 0x6000052389b3) => (m1, 0xc2314fab6803f9b1) ∷
    row 878 0x0e1835a7 with (16, 0x60000fe9b4bc) => (m1, 0xf3ab8b4b78e59ce9) ∷
    row 879 0xd4f135a7 with (2, 0x60003658c140) => (m1, 0xdf0cf0e9753b0b73) ∷
    row 880 0xf6bc34a7 with (24, 0x60003870a02c) => (m1, 0xb768b20e223d9739) ∷
    []) ∷
    -- c.nop
    group 0x0 (
    row 881 0x0001 ∷
    row 882 0x0001 ∷
    row 883 0x0001 ∷
    row 884 0x0001 ∷
    row 885 0x0001 ∷
    row 886 0x0001 ∷
    row 887 0x0001 ∷
    row 888 0x0001 ∷
    row 889 0x0001 ∷
    row 890 0x0001 ∷
    row 891 0x0001 ∷
    row 892 0x0001 ∷
    row 893 0x0001 ∷
    row 894 0x0001 ∷
    row 895 0x0001 ∷
    row 896 0x0001 ∷
    row 897 0x0001 ∷
    row 898 0x0001 ∷
    row 899 0x0001 ∷
    row 900 0x0001 ∷
    row 901 0x0001 ∷
    row 902 0x0001 ∷
    row 903 0x0001 ∷
    row 904 0x0001 ∷
    row 905 0x0001 ∷
    row 906 0x0001 ∷
    row 907 0x0001 ∷
    row 908 0x0001 ∷
    row 909 0x0001 ∷
    row 910 0x0001 ∷
    row 911 0x0001 ∷
    row 912 0x0001 ∷
    row 913 0x0001 ∷
    row 914 0x0001 ∷
    row 915 0x0001 ∷
    row 916 0x0001 ∷
    row 917 0x0001 ∷
    row 918 0x0001 ∷
    row 919 0x0001 ∷
    row 920 0x0001 ∷
    []) ∷
    -- c.j
    group 0x0 (
    row 921 0xbf0d => (pc, 0x7000168039b8) ∷
    row 922 0xbc75 => (pc, 0x7000405f928a) ∷
    row 923 0xa0d5 => (pc, 0x70002190a648) ∷
    row 924 0xa3f9 => (pc, 0x70003a136918) ∷
    row 925 0xbaed => (pc, 0x700009e7cb76) ∷
    row 926 0xa5b9 => (pc, 0x7000110df64c) ∷
    row 927 0xba2d => (pc, 0x70004f85b80a) ∷
    row 928 0xbc31 => (pc, 0x7000454f380a) ∷
    row 929 0xb161 => (pc, 0x7000726a69e4) ∷
    row 930 0xb595 => (pc, 0x700056d74b7c) ∷
    row 931 0xbdb5 => (pc, 0x70007295dba0) ∷
    row 932 0xb081 => (pc, 0x700045a615bc) ∷
    row 933 0xbfa5 => (pc, 0x700050080d9c) ∷
    row 934 0xa971 => (pc, 0x700011bbb3b8) ∷
    row 935 0xb76d => (pc, 0x70000ac1000a) ∷
    row 936 0xbb79 => (pc, 0x70003b17ff92) ∷
    row 937 0xb199 => (pc, 0x700022c0b01c) ∷
    row 938 0xbf79 => (pc, 0x700041bb15a4) ∷
    row 939 0xb309 => (pc, 0x700018072588) ∷
    row 940 0xb879 => (pc, 0x700025a4e3f2) ∷
    row 941 0xa2e1 => (pc, 0x70006a946038) ∷
    row 942 0xa991 => (pc, 0x700066d5862e) ∷
    row 943 0xb4a1 => (pc, 0x70001a684fdc) ∷
    row 944 0xb905 => (pc, 0x7000054cd5cc) ∷
    row 945 0xba71 => (pc, 0x70002783078e) ∷
    row 946 0xb685 => (pc, 0x7000010aedf6) ∷
    row 947 0xa925 => (pc, 0x700011e48bc2) ∷
    row 948 0xbdbd => (pc, 0x70005a0fcb4a) ∷
    row 949 0xa9a1 => (pc, 0x7000598cc6b6) ∷
    row 950 0xbcb9 => (pc, 0x7000105b629a) ∷
    row 951 0xa5cd => (pc, 0x70007e7bc54c) ∷
    row 952 0xae85 => (pc, 0x700023edc856) ∷
    row 953 0xba2d => (pc, 0x700000b174ea) ∷
    row 954 0xb04d => (pc, 0x700014c6db6c) ∷
    row 955 0xa0b5 => (pc, 0x7000602dfa9e) ∷
    row 956 0xb4f9 => (pc, 0x700062e6bcb6) ∷
    row 957 0xbd51 => (pc, 0x70001cf13882) ∷
    row 958 0xa541 => (pc, 0x70000e4d68c0) ∷
    row 959 0xbc69 => (pc, 0x700036fb357c) ∷
    row 960 0xb515 => (pc, 0x700016fac1f8) ∷
    []) ∷
    -- c.lui
    group 0x0 (
    row 961 0x6cd1 => (25, 0x14000) ∷
    row 962 0x7e19 => (28, 0xfffffffffffe6000) ∷
    row 963 0x6cd1 => (25, 0x14000) ∷
    row 964 0x74c1 => (9, 0xffffffffffff0000) ∷
    row 965 0x7d7d => (26, 0xfffffffffffff000) ∷
    row 966 0x6279 => (4, 0x1e000) ∷
    row 967 0x7315 => (6, 0xfffffffffffe5000) ∷
    row 968 0x6dc9 => (27, 0x12000) ∷
    row 969 0x6505 => (10, 0x1000) ∷
    row 970 0x7651 => (12, 0xffffffffffff4000) ∷
    row 971 0x7931 => (18, 0xfffffffffffec000) ∷
    row 972 0x724d => (4, 0xffffffffffff3000) ∷
    row 973 0x66b9 => (13, 0xe000) ∷
    row 974 0x7f11 => (30, 0xfffffffffffe4000) ∷
    row 975 0x7b89 => (23, 0xfffffffffffe2000) ∷
    row 976 0x6459 => (8, 0x16000) ∷
    row 977 0x7ee9 => (29, 0xffffffffffffa000) ∷
    row 978 0x7f79 => (30, 0xffffffffffffe000) ∷
    row 979 0x65d1 => (11, 0x14000) ∷
    row 980 0x7ae9 => (21, 0xffffffffffffa000) ∷
    row 981 0x69dd => (19, 0x17000) ∷
    row 982 0x63e9 => (7, 0x1a000) ∷
    row 983 0x62d9 => (5, 0x16000) ∷
    row 984 0x7801 => (16, 0xfffffffffffe0000) ∷
    row 985 0x6dd9 => (27, 0x16000) ∷
    row 986 0x7d5d => (26, 0xffffffffffff7000) ∷
    row 987 0x67a1 => (15, 0x8000) ∷
    row 988 0x6fd1 => (31, 0x14000) ∷
    row 989 0x7fcd => (31, 0xffffffffffff3000) ∷
    row 990 0x6cc1 => (25, 0x10000) ∷
    row 991 0x6791 => (15, 0x4000) ∷
    row 992 0x6f89 => (31, 0x2000) ∷
    row 993 0x71a9 => (3, 0xfffffffffffea000) ∷
    row 994 0x7f65 => (30, 0xffffffffffff9000) ∷
    row 995 0x7a85 => (21, 0xfffffffffffe1000) ∷
    row 996 0x60c9 => (1, 0x12000) ∷
    row 997 0x6ad1 => (21, 0x14000) ∷
    row 998 0x7ce9 => (25, 0xffffffffffffa000) ∷
    row 999 0x7831 => (16, 0xfffffffffffec000) ∷
    row 1000 0x6db1 => (27, 0xc000) ∷
    []) ∷
    -- c.li
    group 0x0 (
    row 1001 0x4281 => (5, 0) ∷
    row 1002 0x5c7d => (24, 0xffffffffffffffff) ∷
    row 1003 0x5c01 => (24, 0xffffffffffffffe0) ∷
    row 1004 0x497d => (18, 0x1f) ∷
    row 1005 0x4285 => (5, 1) ∷
    row 1006 0x58fd => (17, 0xffffffffffffffff) ∷
    row 1007 0x5f01 => (30, 0xffffffffffffffe0) ∷
    row 1008 0x437d => (6, 0x1f) ∷
    row 1009 0x4f85 => (31, 1) ∷
    row 1010 0x4781 => (15, 0) ∷
    row 1011 0x5481 => (9, 0xffffffffffffffe0) ∷
    row 1012 0x40fd => (1, 0x1f) ∷
    row 1013 0x4305 => (6, 1) ∷
    row 1014 0x4481 => (9, 0) ∷
    row 1015 0x567d => (12, 0xffffffffffffffff) ∷
    row 1016 0x497d => (18, 0x1f) ∷
    row 1017 0x4085 => (1, 1) ∷
    row 1018 0x4501 => (10, 0) ∷
    row 1019 0x517d => (2, 0xffffffffffffffff) ∷
    row 1020 0x5a81 => (21, 0xffffffffffffffe0) ∷
    row 1021 0x5afd => (21, 0xffffffffffffffff) ∷
    row 1022 0x56c5 => (13, 0xfffffffffffffff1) ∷
    row 1023 0x4e49 => (28, 0x12) ∷
    row 1024 0x4f11 => (30, 4) ∷
    row 1025 0x4139 => (2, 0xe) ∷
    row 1026 0x53d9 => (7, 0xfffffffffffffff6) ∷
    row 1027 0x4a7d => (20, 0x1f) ∷
    row 1028 0x5911 => (18, 0xffffffffffffffe4) ∷
    row 1029 0x49d9 => (19, 0x16) ∷
    row 1030 0x4c59 => (24, 0x16) ∷
    row 1031 0x4665 => (12, 0x19) ∷
    row 1032 0x4b79 => (22, 0x1e) ∷
    row 1033 0x5445 => (8, 0xfffffffffffffff1) ∷
    row 1034 0x5985 => (19, 0xffffffffffffffe1) ∷
    row 1035 0x59ed => (19, 0xfffffffffffffffb) ∷
    row 1036 0x519d => (3, 0xffffffffffffffe7) ∷
    row 1037 0x4b7d => (22, 0x1f) ∷
    row 1038 0x5291 => (5, 0xffffffffffffffe4) ∷
    row 1039 0x5995 => (19, 0xffffffffffffffe5) ∷
    row 1040 0x5451 => (8, 0xfffffffffffffff4) ∷
    []) ∷
    -- sub
    group 0x0 (
    row 1041 0x40608f33 with (1, 0) => (30, 0x29292e634ed86826) ∷
    row 1042 0x41f48d33 with (9, 0x8000000000000000) => (26, 0x8f949cea9df7fb7a) ∷
    row 1043 0x401d8733 with (27, 0x7fffffff) => (14, 0x5c9e5cc1d1616da5) ∷
    row 1044 0x41e10bb3 with (2, 0xffffffff80000000) => (23, 0x10e4a7231669843e) ∷
    row 1045 0x41098333 with (19, 0xffffffffffffffff) => (6, 0xcf1d1ad6fef949e2) ∷
    row 1046 0x40e08133 with (1, 0x80000000) => (2, 0xe0637b0586257c28) ∷
    row 1047 0x416d8a33 with (27, 0xffffffff7fffffff) => (20, 0xb4f10620fe92b48d) ∷
    row 1048 0x405b0233 with (22, 1) => (4, 0xe8b7044b2a4e2c16) ∷
    row 1049 0x412b0733 with (22, 0x7fffffffffffffff) => (14, 0x2c3b0cda17e80985) ∷
    row 1050 0x41bc0633 with (24, 0xffffffff) => (12, 0x3bd6f6bfffb8892b) ∷
    row 1051 0x41b380b3 with (7, 1) => (1, 0xdb7695471632bd3a) ∷
    row 1052 0x40f38933 with (7, 0x7fffffffffffffff) => (18, 0xb0b0bf8799fa7664) ∷
    row 1053 0x402f8db3 with (31, 0xffffffff) => (27, 0xeb3b82bf740442f2) ∷
    row 1054 0x405b8133 with (23, 0) => (2, 0xc92c64526773eb64) ∷
    row 1055 0x401b07b3 with (22, 0x8000000000000000) => (15, 0x207aec40acb0d879) ∷
    row 1056 0x41eb8133 with (23, 0x7fffffff) => (2, 0x2f61183593354764) ∷
    row 1057 0x40378633 with (15, 0xffffffff80000000) => (12, 0xd5dcfb2a2e3e8b34) ∷
    row 1058 0x40310bb3 with (2, 0xffffffffffffffff) => (23, 0x8d0cbbb7e7b2aa71) ∷
    row 1059 0x40fc87b3 with (25, 0x80000000) => (15, 0xfa04fb53af4fbc51) ∷
    row 1060 0x40e10a33 with (2, 0xffffffff7fffffff) => (20, 0xbdad760838e8d130) ∷
    row 1061 0x40948bb3 => (23, 0) ∷
    row 1062 0x412a02b3 => (5, 0x8561af7d22217c76) ∷
    row 1063 0x41ab05b3 => (11, 0x2124e1ad0b053a83) ∷
    row 1064 0x413888b3 => (17, 0x4e97f24bb15d977c) ∷
    row 1065 0x40138833 => (16, 0x69ada1f9020d1b38) ∷
    row 1066 0x40540c33 => (24, 0x5e614d3af594f797) ∷
    row 1067 0x411585b3 => (11, 0xe31dcef8ebcb7f13) ∷
    row 1068 0x410d8f33 => (30, 0xba834341c59e4ce6) ∷
    row 1069 0x40c406b3 => (13, 0xe314f9fd086d732f) ∷
    row 1070 0x41a18e33 => (28, 0x6e358d9e662b5c1b) ∷
    row 1071 0x411e0133 => (2, 0x5d0e833ada0a8105) ∷
    row 1072 0x40710133 => (2, 0x104a82ff38ee83f3) ∷
    row 1073 0x400285b3 => (11, 0xb96bc86bcab91492) ∷
    row 1074 0x409f86b3 => (13, 0x58a421ea8e2d587c) ∷
    row 1075 0x412d02b3 => (5, 0x661b1c4d04e7217c) ∷
    row 1076 0x41ea84b3 => (9, 0xd1c5b72de9a30374) ∷
    row 1077 0x408c0033 ∷
    row 1078 0x418808b3 => (17, 0x4627ef454deec4ce) ∷
    row 1079 0x40aa83b3 => (7, 0x4d523bfa66cc7988) ∷
    row 1080 0x40ae06b3 => (13, 0x69464050a12f11b7) ∷
    []) ∷
    -- srli
    group 0x0 (
    row 1081 0x000ad993 with (21, 0) => (19, 0) ∷
    row 1082 0x03f4d893 with (9, 0x8000000000000000) => (17, 1) ∷
    row 1083 0x00185e93 with (16, 0x7fffffff) => (29, 0x3fffffff) ∷
    row 1084 0x020ed113 with (29, 0xffffffff80000000) => (2, 0xffffffff) ∷
    row 1085 0x01fdd093 with (27, 0xffffffffffffffff) => (1, 0x1ffffffff) ∷
    row 1086 0x03f65993 with (12, 0x80000000) => (19, 0) ∷
    row 1087 0x001cdc13 with (25, 0xffffffff7fffffff) => (24, 0x7fffffffbfffffff) ∷
    row 1088 0x0209da13 with (19, 1) => (20, 0) ∷
    row 1089 0x01f2d893 with (5, 0x7fffffffffffffff) => (17, 0xffffffff) ∷
    row 1090 0x000d5c13 with (26, 0xffffffff) => (24, 0xffffffff) ∷
    row 1091 0x001ad093 with (21, 1) => (1, 0) ∷
    row 1092 0x02065a13 with (12, 0x7fffffffffffffff) => (20, 0x7fffffff) ∷
    row 1093 0x01fcdc13 with (25, 0xffffffff) => (24, 1) ∷
    row 1094 0x00025d13 with (4, 0) => (26, 0) ∷
    row 1095 0x03f15013 with (2, 0x8000000000000000) ∷
    row 1096 0x0202dd13 with (5, 0x7fffffff) => (26, 0) ∷
    row 1097 0x01f3d513 with (7, 0xffffffff80000000) => (10, 0x1ffffffff) ∷
    row 1098 0x000dda13 with (27, 0xffffffffffffffff) => (20, 0xffffffffffffffff) ∷
    row 1099 0x03f75513 with (14, 0x80000000) => (10, 0) ∷
    row 1100 0x0011d093 with (3, 0xffffffff7fffffff) => (1, 0x7fffffffbfffffff) ∷
    row 1101 0x02745c13 => (24, 0x75f6c1) ∷
    row 1102 0x0113de13 => (28, 0x754a2adf8d6c) ∷
    row 1103 0x028edb93 => (23, 0x914483) ∷
    row 1104 0x0332de93 => (29, 0x1dce) ∷
    row 1105 0x0296d513 => (10, 0x4c3337) ∷
    row 1106 0x03b85193 => (3, 1) ∷
    row 1107 0x005c5513 => (10, 0x34a96e26f28fba5) ∷
    row 1108 0x01b65693 => (13, 0x1b4f36d0aa) ∷
    row 1109 0x0069d513 => (10, 0x766abe87966307) ∷
    row 1110 0x01355113 => (2, 0x16be9d1cec46) ∷
    row 1111 0x00145e93 => (29, 0x3e2695760ae44219) ∷
    row 1112 0x03065993 => (19, 0xbf8) ∷
    row 1113 0x0118df13 => (30, 0x1ed0cea4438f) ∷
    row 1114 0x03dcd293 => (5, 1) ∷
    row 1115 0x02915093 => (1, 0x67d832) ∷
    row 1116 0x026b5a93 => (21, 0x1cbcede) ∷
    row 1117 0x03d8dc13 => (24, 0) ∷
    row 1118 0x02775a93 => (21, 0xd5ab9a) ∷
    row 1119 0x02a4dc93 => (25, 0x2566da) ∷
    row 1120 0x019d5093 => (1, 0x7f3e5afbbc) ∷
    []) ∷
    []
