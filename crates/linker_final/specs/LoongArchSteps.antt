-- What qemu-loongarch64 made of instructions. `tools/oracle steps` makes this file.
use Rattle.std.specs.Prelude.{List, [], ◌∷◌}
use Rattle.linker_final.specs.Steps.{Group, at, group, m0, m1, m2, m3, pc, row, ◌=>◌, ◌with◌}

unfoldable pub loongarch_groups : List Group
loongarch_groups =
    -- pcalau12i
    group 0x0 (
    row 1 0x1a00000f => (15, 0x400107000) ∷
    row 2 0x1bffffe0 ∷
    row 3 0x1a00003c => (28, 0x10d000) ∷
    row 4 0x1b000013 => (19, 0x380110000) ∷
    row 5 0x1afffff8 => (24, 0x480113000) ∷
    row 6 0x1bfffffd => (29, 0x200119000) ∷
    row 7 0x1a000039 => (25, 0x20011e000) ∷
    row 8 0x1b000001 => (1, 0x180120000) ∷
    row 9 0x1afffffb => (27, 0x480123000) ∷
    row 10 0x1a000000 ∷
    row 11 0x1a000031 => (17, 0x130000) ∷
    row 12 0x1b000011 => (17, 0x180131000) ∷
    row 13 0x1afffff1 => (17, 0x80135000) ∷
    row 14 0x1a00001b => (27, 0x20013a000) ∷
    row 15 0x1bfffff8 => (24, 0x20013d000) ∷
    row 16 0x1b00000e => (14, 0x180142000) ∷
    row 17 0x1affffec => (12, 0x280146000) ∷
    row 18 0x1a000000 ∷
    row 19 0x1bffffef => (15, 0x20014e000) ∷
    row 20 0x1a00003c => (28, 0x153000) ∷
    row 21 0x1b42a598 => (24, 0xffffffffa1682000) ∷
    row 22 0x1a452e38 => (24, 0x222ac9000) ∷
    row 23 0x1b7e6019 => (25, 0x1bf45d000) ∷
    row 24 0x1aae4427 => (7, 0x457381000) ∷
    row 25 0x1bb877d4 => (20, 0x1dc522000) ∷
    row 26 0x1a8b9840 ∷
    row 27 0x1bf99d1c => (28, 0xfffffffffce55000) ∷
    row 28 0x1b39a397 => (23, 0xffffffff9ce8c000) ∷
    row 29 0x1b2d6f1d => (29, 0x196cee000) ∷
    row 30 0x1bc99943 => (3, 0xffffffffe4e45000) ∷
    row 31 0x1a99550c => (12, 0x24cc27000) ∷
    row 32 0x1a61c268 => (8, 0x430f94000) ∷
    row 33 0x1a7c4dec => (12, 0x23e3f3000) ∷
    row 34 0x1b81b360 ∷
    row 35 0x1a39af73 => (19, 0x1cf07000) ∷
    row 36 0x1b6a9a9c => (28, 0x3b5664000) ∷
    row 37 0x1a6e73b2 => (18, 0x437534000) ∷
    row 38 0x1a8faf71 => (17, 0x47f13000) ∷
    row 39 0x1a459e40 ∷
    row 40 0x1b9b7783 => (3, 0x3cdd5e000) ∷
    []) ∷
    -- pcaddi
    group 0x0 (
    row 41 0x1800001c => (28, 0x1a6a8c) ∷
    row 42 0x19ffffe0 ∷
    row 43 0x1800003f => (31, 0x2001af47c) ∷
    row 44 0x19000013 => (19, 0x1fffb11bc) ∷
    row 45 0x18ffffe0 ∷
    row 46 0x19ffffe8 => (8, 0x1baf8c) ∷
    row 47 0x18000038 => (24, 0x1be820) ∷
    row 48 0x1900001a => (26, 0xfffffffffffc0b88) ∷
    row 49 0x18ffffe0 ∷
    row 50 0x18000000 ∷
    row 51 0x18000027 => (7, 0x2001cd1b4) ∷
    row 52 0x1900001e => (30, 0x1fffd1098) ∷
    row 53 0x18fffff2 => (18, 0x3d6a5c) ∷
    row 54 0x18000000 ∷
    row 55 0x19fffff0 => (16, 0x4001dc684) ∷
    row 56 0x19000000 ∷
    row 57 0x18fffffa => (26, 0x4003e4b80) ∷
    row 58 0x18000000 ∷
    row 59 0x19fffff8 => (24, 0x1edbfc) ∷
    row 60 0x18000037 => (23, 0x4001f0c8c) ∷
    row 61 0x193d386c => (12, 0x4000701a8) ∷
    row 62 0x19228b7f => (31, 0x40003ecfc) ∷
    row 63 0x19208af9 => (25, 0x20003e0c0) ∷
    row 64 0x18f46fe1 => (1, 0x2003eaebc) ∷
    row 65 0x1811482b => (11, 0x400229b54) ∷
    row 66 0x19d6ca40 ∷
    row 67 0x185130ff => (31, 0x2002af42c) ∷
    row 68 0x18d3b9bc => (28, 0x4003b7f70) ∷
    row 69 0x193fc7c6 => (6, 0x400095640) ∷
    row 70 0x18426053 => (19, 0x20029fbe8) ∷
    row 71 0x1963c1b6 => (22, 0x4000e5588) ∷
    row 72 0x18562ff3 => (19, 0x2002ce0fc) ∷
    row 73 0x1816781d => (29, 0x252534) ∷
    row 74 0x186e9560 ∷
    row 75 0x18fc9e53 => (19, 0x4263ac) ∷
    row 76 0x199f6c7b => (27, 0x200172694) ∷
    row 77 0x18315caa => (10, 0x20029a34c) ∷
    row 78 0x18db295d => (29, 0x3f1e70) ∷
    row 79 0x1909a598 => (24, 0x200051264) ∷
    row 80 0x19cf79e7 => (7, 0x1df994) ∷
    []) ∷
    -- pcaddu18i
    group 0x0 (
    row 81 0x1e000019 => (25, 0x2002471d8) ∷
    row 82 0x1fffffe0 ∷
    row 83 0x1e00003a => (26, 0x40028c420) ∷
    row 84 0x1f000004 => (4, 0xffffffe0002526ec) ∷
    row 85 0x1efffff8 => (24, 0x240021773c) ∷
    row 86 0x1fffffee => (14, 0x400218d18) ∷
    row 87 0x1e000026 => (6, 0x29d880) ∷
    row 88 0x1f000011 => (17, 0xffffffe400261c18) ∷
    row 89 0x1efffffc => (28, 0x2400224d3c) ∷
    row 90 0x1e000000 ∷
    row 91 0x1e000021 => (1, 0x2002af578) ∷
    row 92 0x1f000003 => (3, 0xffffffe400270f38) ∷
    row 93 0x1effffec => (12, 0x2200235684) ∷
    row 94 0x1e000014 => (20, 0x278e04) ∷
    row 95 0x1fffffef => (15, 0x40023e060) ∷
    row 96 0x1f000005 => (5, 0xffffffe200283af4) ∷
    row 97 0x1effffe0 ∷
    row 98 0x1e000000 ∷
    row 99 0x1fffffe3 => (3, 0x40024e3e4) ∷
    row 100 0x1e000036 => (22, 0x2002d39f4) ∷
    row 101 0x1f53daad => (13, 0xffffffee7b7d62e0) ∷
    row 102 0x1e97f294 => (20, 0x16fe799158) ∷
    row 103 0x1ffbdbcd => (13, 0xffffffff7ba1d2b0) ∷
    row 104 0x1f838401 => (1, 0xfffffff070aa1190) ∷
    row 105 0x1e887e51 => (17, 0x150ff275f8) ∷
    row 106 0x1e0f1800 ∷
    row 107 0x1f168047 => (7, 0xffffffe4d032d214) ∷
    row 108 0x1e72ce34 => (20, 0x1259ef19c4) ∷
    row 109 0x1ea2e377 => (23, 0x145c975c58) ∷
    row 110 0x1f6352bb => (27, 0xffffffec6a7f89c8) ∷
    row 111 0x1fbce6c1 => (1, 0xfffffff99d03dcc0) ∷
    row 112 0x1fcf1d67 => (7, 0xfffffffde3d827ec) ∷
    row 113 0x1f7fcbd9 => (25, 0xffffffeff9a47b50) ∷
    row 114 0x1f60c8c0 ∷
    row 115 0x1f7379e8 => (8, 0xfffffff26f68f004) ∷
    row 116 0x1f334ff9 => (25, 0xffffffea6a290958) ∷
    row 117 0x1e2177cd => (13, 0x62f256038) ∷
    row 118 0x1e0bb9ea => (10, 0x57769b9f4) ∷
    row 119 0x1f47338b => (11, 0xffffffeae69df93c) ∷
    row 120 0x1e7acc07 => (7, 0x1159ae38b8) ∷
    []) ∷
    -- lu12i.w
    group 0x0 (
    row 121 0x14000004 => (4, 0) ∷
    row 122 0x15ffffe0 ∷
    row 123 0x1400003a => (26, 0x1000) ∷
    row 124 0x1500001c => (28, 0xffffffff80000000) ∷
    row 125 0x14fffff1 => (17, 0x7ffff000) ∷
    row 126 0x15fffff8 => (24, 0xfffffffffffff000) ∷
    row 127 0x1400002e => (14, 0x1000) ∷
    row 128 0x1500000e => (14, 0xffffffff80000000) ∷
    row 129 0x14fffff8 => (24, 0x7ffff000) ∷
    row 130 0x14000000 ∷
    row 131 0x14000021 => (1, 0x1000) ∷
    row 132 0x15000003 => (3, 0xffffffff80000000) ∷
    row 133 0x14fffff5 => (21, 0x7ffff000) ∷
    row 134 0x14000011 => (17, 0) ∷
    row 135 0x15ffffe8 => (8, 0xfffffffffffff000) ∷
    row 136 0x15000009 => (9, 0xffffffff80000000) ∷
    row 137 0x14fffff3 => (19, 0x7ffff000) ∷
    row 138 0x14000000 ∷
    row 139 0x15fffffc => (28, 0xfffffffffffff000) ∷
    row 140 0x1400003a => (26, 0x1000) ∷
    row 141 0x1445dcfa => (26, 0x22ee7000) ∷
    row 142 0x1456923a => (26, 0x2b491000) ∷
    row 143 0x14731cbf => (31, 0x398e5000) ∷
    row 144 0x149dcd28 => (8, 0x4ee69000) ∷
    row 145 0x14a6a2fa => (26, 0x53517000) ∷
    row 146 0x15f66ac0 ∷
    row 147 0x15db1a4b => (11, 0xffffffffed8d2000) ∷
    row 148 0x15a3a428 => (8, 0xffffffffd1d21000) ∷
    row 149 0x15685325 => (5, 0xffffffffb4299000) ∷
    row 150 0x15d34394 => (20, 0xffffffffe9a1c000) ∷
    row 151 0x152532a3 => (3, 0xffffffff92995000) ∷
    row 152 0x14a25927 => (7, 0x512c9000) ∷
    row 153 0x1524b6f0 => (16, 0xffffffff925b7000) ∷
    row 154 0x159a80c0 ∷
    row 155 0x1538abed => (13, 0xffffffff9c55f000) ∷
    row 156 0x147cb5ca => (10, 0x3e5ae000) ∷
    row 157 0x14c56e04 => (4, 0x62b70000) ∷
    row 158 0x148987c2 => (2, 0x44c3e000) ∷
    row 159 0x15e020f3 => (19, 0xfffffffff0107000) ∷
    row 160 0x1402d49e => (30, 0x16a4000) ∷
    []) ∷
    -- ori
    group 0x0 (
    row 161 0x038002c7 with (22, 0) => (7, 0) ∷
    row 162 0x03bfff20 with (25, 0x8000000000000000) ∷
    row 163 0x03800730 with (25, 0x7fffffff) => (16, 0x7fffffff) ∷
    row 164 0x03a00019 => (25, 0x800) ∷
    row 165 0x039ffdba with (13, 0xffffffffffffffff) => (26, 0xffffffffffffffff) ∷
    row 166 0x03bffe73 with (19, 0x80000000) => (19, 0x80000fff) ∷
    row 167 0x03800525 with (9, 0xffffffff7fffffff) => (5, 0xffffffff7fffffff) ∷
    row 168 0x03a0025a with (18, 1) => (26, 0x801) ∷
    row 169 0x039fff22 with (25, 0x7fffffffffffffff) => (2, 0x7fffffffffffffff) ∷
    row 170 0x038001e0 with (15, 0xffffffff) ∷
    row 171 0x0380059b with (12, 1) => (27, 1) ∷
    row 172 0x03a00008 => (8, 0x800) ∷
    row 173 0x039ffe28 with (17, 0xffffffff) => (8, 0xffffffff) ∷
    row 174 0x038001ce with (14, 0) ∷
    row 175 0x03bfff83 with (28, 0x8000000000000000) => (3, 0x8000000000000fff) ∷
    row 176 0x03a00355 with (26, 0x7fffffff) => (21, 0x7fffffff) ∷
    row 177 0x039ffdd2 with (14, 0xffffffff80000000) => (18, 0xffffffff800007ff) ∷
    row 178 0x038000c0 with (6, 0xffffffffffffffff) ∷
    row 179 0x03bffca6 with (5, 0x80000000) => (6, 0x80000fff) ∷
    row 180 0x0380041b => (27, 1) ∷
    row 181 0x03b39f67 => (7, 0xe33f9e3b393addf7) ∷
    row 182 0x03a4c908 => (8, 0xd36c6d6de19bdf37) ∷
    row 183 0x038803f4 => (20, 0x175182541d961f11) ∷
    row 184 0x038c1ebf => (31, 0x6458cd68d631d74f) ∷
    row 185 0x038ff08f => (15, 0xcc70a9d49aafdbfd) ∷
    row 186 0x03b23940 ∷
    row 187 0x03a41001 => (1, 0x904) ∷
    row 188 0x03a18803 => (3, 0x862) ∷
    row 189 0x0392f891 => (17, 0x4273cedd9c1ffff) ∷
    row 190 0x03b2794a => (10, 0x72021de4f2588cbe) ∷
    row 191 0x039a213e => (30, 0xa30402b79f45dfcd) ∷
    row 192 0x03afaea1 => (1, 0x4e5e2843564e8beb) ∷
    row 193 0x0397a8a0 ∷
    row 194 0x03b56140 ∷
    row 195 0x03811c3e => (30, 0xb242016cca363b4f) ∷
    row 196 0x03b0a808 => (8, 0xc2a) ∷
    row 197 0x03ae543c => (28, 0xa0d57d9212788bf7) ∷
    row 198 0x038dbc00 ∷
    row 199 0x038fd14b => (11, 0xc9469215bd9bf3f6) ∷
    row 200 0x03b5ed32 => (18, 0x238fa536f5bfed7b) ∷
    []) ∷
    -- andi
    group 0x0 (
    row 201 0x034002dd with (22, 0) => (29, 0) ∷
    row 202 0x037ffd80 with (12, 0x8000000000000000) ∷
    row 203 0x03400600 with (16, 0x7fffffff) ∷
    row 204 0x0360001f => (31, 0) ∷
    row 205 0x035ffc98 with (4, 0xffffffffffffffff) => (24, 0x7ff) ∷
    row 206 0x037ffc00 ∷
    row 207 0x03400752 with (26, 0xffffffff7fffffff) => (18, 1) ∷
    row 208 0x03600177 with (11, 1) => (23, 0) ∷
    row 209 0x035ffebd with (21, 0x7fffffffffffffff) => (29, 0x7ff) ∷
    row 210 0x03400020 with (1, 0xffffffff) ∷
    row 211 0x034005a7 with (13, 1) => (7, 1) ∷
    row 212 0x0360000f => (15, 0) ∷
    row 213 0x035fff22 with (25, 0xffffffff) => (2, 0x7ff) ∷
    row 214 0x034002d6 with (22, 0) ∷
    row 215 0x037ffe47 with (18, 0x8000000000000000) => (7, 0) ∷
    row 216 0x03600393 with (28, 0x7fffffff) => (19, 0x800) ∷
    row 217 0x035fffb5 with (29, 0xffffffff80000000) => (21, 0) ∷
    row 218 0x03400200 with (16, 0xffffffffffffffff) ∷
    row 219 0x037ffd54 with (10, 0x80000000) => (20, 0) ∷
    row 220 0x03400411 => (17, 0) ∷
    row 221 0x036bb196 => (22, 0xe0) ∷
    row 222 0x037a2739 => (25, 0x489) ∷
    row 223 0x035b5a3c => (28, 0) ∷
    row 224 0x0357ceb5 => (21, 0x551) ∷
    row 225 0x0375d15c => (28, 0x940) ∷
    row 226 0x0343f080 ∷
    row 227 0x035fe58a => (10, 0x7d9) ∷
    row 228 0x0347d40e => (14, 0) ∷
    row 229 0x03549476 => (22, 1) ∷
    row 230 0x034ea652 => (18, 0x1a8) ∷
    row 231 0x03735f62 => (2, 0x4d5) ∷
    row 232 0x0359937d => (29, 0x244) ∷
    row 233 0x03551b42 => (2, 4) ∷
    row 234 0x034b7060 ∷
    row 235 0x03445bad => (13, 6) ∷
    row 236 0x0348fc07 => (7, 0) ∷
    row 237 0x03619c2a => (10, 0x822) ∷
    row 238 0x03600e31 => (17, 0x803) ∷
    row 239 0x0359c6b1 => (17, 0x71) ∷
    row 240 0x034366f8 => (24, 0xc0) ∷
    []) ∷
    -- jirl
    group 0x0 (
    row 241 0x4c000226 with (17, 0) => (6, 0x4004c67a8) => (pc, 0) ∷
    row 242 0x4ffffc40 with (2, 0x8000000000000000) => (pc, 0x7ffffffffffffffc) ∷
    row 243 0x4c00054c with (10, 0x7fffffff) => (12, 0x4004ce8bc) => (pc, 0x80000003) ∷
    row 244 0x4e000004 => (4, 0x4d26ec) => (pc, 0xfffffffffffe0000) ∷
    row 245 0x4dfffe42 with (18, 0xffffffffffffffff) => (2, 0x2004d6d4c) => (pc, 0x1fffb) ∷
    row 246 0x4ffffc42 with (2, 0x80000000) => (2, 0x4dbbe4) => (pc, 0x7ffffffc) ∷
    row 247 0x4c0005ee with (15, 0xffffffff7fffffff) => (14, 0x4004de2ac)
    => (pc, 0xffffffff80000003) ∷
    row 248 0x4e000165 with (11, 1) => (5, 0x2004e09ac) => (pc, 0xfffffffffffe0001) ∷
    row 249 0x4dfffccb with (6, 0x7fffffffffffffff) => (11, 0x4004e5388) => (pc, 0x800000000001fffb)
    ∷
    row 250 0x4c000140 with (10, 0xffffffff) => (pc, 0xffffffff) ∷
    row 251 0x4c0005d4 with (14, 1) => (20, 0x2004eed38) => (pc, 5) ∷
    row 252 0x4e00000e => (14, 0x4f1fb4) => (pc, 0xfffffffffffe0000) ∷
    row 253 0x4dfffccc with (6, 0xffffffff) => (12, 0x2004f450c) => (pc, 0x10001fffb) ∷
    row 254 0x4c0000a5 with (5, 0) => (5, 0x4004f9544) => (pc, 0) ∷
    row 255 0x4ffffd14 with (8, 0x8000000000000000) => (20, 0x2004fcb08) => (pc, 0x7ffffffffffffffc)
    ∷
    row 256 0x4e0002ad with (21, 0x7fffffff) => (13, 0x5033ac) => (pc, 0x7ffdffff) ∷
    row 257 0x4dfffe1b with (16, 0xffffffff80000000) => (27, 0x200506c80)
    => (pc, 0xffffffff8001fffc) ∷
    row 258 0x4c0002c0 with (22, 0xffffffffffffffff) => (pc, 0xffffffffffffffff) ∷
    row 259 0x4ffffca5 with (5, 0x80000000) => (5, 0x50ec20) => (pc, 0x7ffffffc) ∷
    row 260 0x4c000406 => (6, 0x400512590) => (pc, 4) ∷
    row 261 0x4d7dff64 => (4, 0x515c90) => (pc, 0x8f7cab3c536d0b03) ∷
    row 262 0x4fe7c129 => (9, 0x200519bc0) => (pc, 0xb4585564f496a00c) ∷
    row 263 0x4cfe48a8 => (8, 0x51c87c) => (pc, 0x72f593d45f486bb9) ∷
    row 264 0x4f1ab27f => (31, 0x52256c) => (pc, 0x4bd808e23331284b) ∷
    row 265 0x4fbd6d64 => (4, 0x200525d38) => (pc, 0xc7f8f61caead727a) ∷
    row 266 0x4d13f100 => (pc, 0x9862c5d6dc4770ec) ∷
    row 267 0x4d8d9484 => (4, 0x40052e81c) => (pc, 0x4d79764a2ee1389b) ∷
    row 268 0x4c6e341c => (28, 0x200531088) => (pc, 0x6e34) ∷
    row 269 0x4e6dbe55 => (21, 0x5373d4) => (pc, 0xdd38575af025f121) ∷
    row 270 0x4d40db39 => (25, 0x40053af50) => (pc, 0xa3d5b454f6eedf5d) ∷
    row 271 0x4d82d318 => (24, 0x53f85c) => (pc, 0x3c6480b4fae34175) ∷
    row 272 0x4d8155db => (27, 0x400540c40) => (pc, 0xf11395c04cf351f1) ∷
    row 273 0x4c8006a9 => (9, 0x546db4) => (pc, 0xa32643123a492419) ∷
    row 274 0x4caad400 => (pc, 0xaad4) ∷
    row 275 0x4e2c2eaa => (10, 0x20054de88) => (pc, 0x5b26e287efbf37c9) ∷
    row 276 0x4d64b81b => (27, 0x200552dec) => (pc, 0x164b8) ∷
    row 277 0x4fb088bf => (31, 0x200554584) => (pc, 0xa5d2d9b6486eecf1) ∷
    row 278 0x4cc3f042 => (2, 0x20055ad50) => (pc, 0x27ded47568448887) ∷
    row 279 0x4f191816 => (22, 0x20055d550) => (pc, 0xffffffffffff1918) ∷
    row 280 0x4c8f92a5 => (5, 0x200562830) => (pc, 0x62872707397964ae) ∷
    []) ∷
    -- b
    group 0x0 (
    row 281 0x50000000 => (pc, 0x200565b40) ∷
    row 282 0x53ffffff => (pc, 0x5693dc) ∷
    row 283 0x50000400 ∷
    row 284 0x50000200 => (pc, 0xfffffffff8572db8) ∷
    row 285 0x53fffdff => (pc, 0x408574eec) ∷
    row 286 0x53ffffff => (pc, 0x5785b4) ∷
    row 287 0x50000400 ∷
    row 288 0x50000200 => (pc, 0xfffffffff8580688) ∷
    row 289 0x53fffdff => (pc, 0x858633c) ∷
    row 290 0x50000000 => (pc, 0x200588ad4) ∷
    row 291 0x50000400 ∷
    row 292 0x50000200 => (pc, 0x3f8590a9c) ∷
    row 293 0x53fffdff => (pc, 0x8595578) ∷
    row 294 0x50000000 => (pc, 0x20059b338) ∷
    row 295 0x53ffffff => (pc, 0x40059e124) ∷
    row 296 0x50000200 => (pc, 0xfffffffff85a1f50) ∷
    row 297 0x53fffdff => (pc, 0x4085a65a4) ∷
    row 298 0x50000000 => (pc, 0x5ab438) ∷
    row 299 0x53ffffff => (pc, 0x2005ae5a0) ∷
    row 300 0x50000400 ∷
    row 301 0x50bb252d => (pc, 0x405101194) ∷
    row 302 0x52e6719e => (pc, 0x206d68eec) ∷
    row 303 0x52c9d5ff => (pc, 0x4085abf38) ∷
    row 304 0x50976acf => (pc, 0x1fb98bf40) ∷
    row 305 0x51c8db10 => (pc, 0xfffffffffc9e1604) ∷
    row 306 0x53fb2987 => (pc, 0x4067c9dd8) ∷
    row 307 0x533a7237 => (pc, 0x1f93c12dc) ∷
    row 308 0x51b93843 => (pc, 0x2016acce8) ∷
    row 309 0x51f2d7e9 => (pc, 0x2000344a8) ∷
    row 310 0x5340f977 => (pc, 0x4063cee78) ∷
    row 311 0x50eb239b => (pc, 0xfffffffffecabc84) ∷
    row 312 0x50658f71 => (pc, 0x1fe226b04) ∷
    row 313 0x5048878d => (pc, 0x1fe928f9c) ∷
    row 314 0x51edd9cd => (pc, 0x7947970) ∷
    row 315 0x506441e4 => (pc, 0x407ef4f34) ∷
    row 316 0x52b70338 => (pc, 0x3fd41cc30) ∷
    row 317 0x52c96b83 => (pc, 0x1fe6e1660) ∷
    row 318 0x525ccc3c => (pc, 0x151f1c0) ∷
    row 319 0x5323c66b => (pc, 0x3fa0f00e4) ∷
    row 320 0x529fc90d => (pc, 0x496aaa4) ∷
    []) ∷
    -- bl
    group 0x0 (
    row 321 0x54000000 => (1, 0x607378) => (pc, 0x607374) ∷
    row 322 0x57ffffff => (1, 0x40060aeec) => (pc, 0x40060aee4) ∷
    row 323 0x54000400 => (1, 0x20060c544) ∷
    row 324 0x54000200 => (1, 0x610bd0) => (pc, 0xfffffffff8610bcc) ∷
    row 325 0x57fffdff => (1, 0x6177e4) => (pc, 0x86177dc) ∷
    row 326 0x57ffffff => (1, 0x619c2c) => (pc, 0x619c24) ∷
    row 327 0x54000400 => (1, 0x20061edfc) ∷
    row 328 0x54000200 => (1, 0x200620558) => (pc, 0x1f8620554) ∷
    row 329 0x57fffdff => (1, 0x2006254e8) => (pc, 0x2086254e0) ∷
    row 330 0x54000000 => (1, 0x200628f58) => (pc, 0x200628f54) ∷
    row 331 0x54000400 => (1, 0x62e9fc) ∷
    row 332 0x54000200 => (1, 0x200630a28) => (pc, 0x1f8630a24) ∷
    row 333 0x57fffdff => (1, 0x200637534) => (pc, 0x20863752c) ∷
    row 334 0x54000000 => (1, 0x20063b320) => (pc, 0x20063b31c) ∷
    row 335 0x57ffffff => (1, 0x63f3ec) => (pc, 0x63f3e4) ∷
    row 336 0x54000200 => (1, 0x641a40) => (pc, 0xfffffffff8641a3c) ∷
    row 337 0x57fffdff => (1, 0x400647370) => (pc, 0x408647368) ∷
    row 338 0x54000000 => (1, 0x64aa30) => (pc, 0x64aa2c) ∷
    row 339 0x57ffffff => (1, 0x20064ee74) => (pc, 0x20064ee6c) ∷
    row 340 0x54000400 => (1, 0x400653598) ∷
    row 341 0x57c9feac => (1, 0x655fa0) => (pc, 0xfffffffffb192998) ∷
    row 342 0x543ebd4d => (1, 0x20065872c) => (pc, 0x20599c5e4) ∷
    row 343 0x57e2be6c => (1, 0x40065f998) => (pc, 0x3fa19dc50) ∷
    row 344 0x5741ca4f => (1, 0x660c3c) => (pc, 0xfffffffff9a54e00) ∷
    row 345 0x57595652 => (1, 0x2006651bc) => (pc, 0x1f9b1ab0c) ∷
    row 346 0x547527e1 => (1, 0x20066ba1c) => (pc, 0x1ffeb2f3c) ∷
    row 347 0x567b152b => (1, 0x66ed5c) => (pc, 0x515686c) ∷
    row 348 0x564011d8 => (1, 0x672624) => (pc, 0x7c96630) ∷
    row 349 0x5644efaf => (1, 0x677720) => (pc, 0xffffffffff25bc08) ∷
    row 350 0x55a6b616 => (1, 0x200678850) => (pc, 0x1f8c12f00) ∷
    row 351 0x56241974 => (1, 0x67f70c) => (pc, 0x63a1b20) ∷
    row 352 0x5571bd07 => (1, 0x4006818a4) => (pc, 0x404858a5c) ∷
    row 353 0x57d5edb0 => (1, 0x400686d1c) => (pc, 0x4072c4304) ∷
    row 354 0x5595cdb5 => (1, 0x400688c74) => (pc, 0x4073e223c) ∷
    row 355 0x562a2ab4 => (1, 0x40068d400) => (pc, 0x3fb3afe24) ∷
    row 356 0x54f79a82 => (1, 0x200691118) => (pc, 0x1fa7208ac) ∷
    row 357 0x5500d18d => (1, 0x400696e60) => (pc, 0x4069e6f2c) ∷
    row 358 0x567fa422 => (1, 0x400699134) => (pc, 0x400f410d4) ∷
    row 359 0x55e6f71f => (1, 0x20069f994) => (pc, 0x1fce7e084) ∷
    row 360 0x560dae9c => (1, 0x4006a3a24) => (pc, 0x3fadc47cc) ∷
    []) ∷
    -- add.d
    group 0x0 (
    row 361 0x00109ee8 with (7, 0) with (23, 0) => (8, 0) ∷
    row 362 0x00108e20 with (3, 0xffffffff) with (17, 0x8000000000000000) ∷
    row 363 0x0010d0f4 with (7, 0x7fffffff) with (20, 0x7fffffffffffffff)
    => (20, 0x800000007ffffffe) ∷
    row 364 0x0010a807 with (10, 1) => (7, 1) ∷
    row 365 0x0010b52a with (9, 0xffffffffffffffff) with (13, 0xffffffff7fffffff)
    => (10, 0xffffffff7ffffffe) ∷
    row 366 0x0010b18c with (12, 0x80000000) => (12, 0x100000000) ∷
    row 367 0x0010c6ff with (17, 0xffffffffffffffff) with (23, 0xffffffff7fffffff)
    => (31, 0xffffffff7ffffffe) ∷
    row 368 0x0010bfc8 with (15, 0xffffffff80000000) with (30, 1) => (8, 0xffffffff80000001) ∷
    row 369 0x00109419 with (5, 0x7fffffff) => (25, 0x7fffffff) ∷
    row 370 0x00108c20 with (1, 0xffffffff) with (3, 0x8000000000000000) ∷
    row 371 0x0010918b with (4, 1) with (12, 1) => (11, 2) ∷
    row 372 0x0010f400 with (29, 0xffffffff7fffffff) ∷
    row 373 0x00108e3d with (3, 0x80000000) with (17, 0xffffffff) => (29, 0x17fffffff) ∷
    row 374 0x0010b5ad with (13, 0) ∷
    row 375 0x0010c7e8 with (17, 0xffffffff80000000) with (31, 0x8000000000000000)
    => (8, 0x7fffffff80000000) ∷
    row 376 0x0010c2eb with (16, 0x7fffffff) with (23, 0x7fffffff) => (11, 0xfffffffe) ∷
    row 377 0x0010fb83 with (28, 0xffffffff80000000) with (30, 0x8000000000000000)
    => (3, 0x7fffffff80000000) ∷
    row 378 0x0010bbe0 with (14, 0) with (31, 0xffffffffffffffff) ∷
    row 379 0x0010cd09 with (8, 0x80000000) with (19, 0xffffffff) => (9, 0x17fffffff) ∷
    row 380 0x0010c814 with (18, 0x7fffffffffffffff) => (20, 0x7fffffffffffffff) ∷
    row 381 0x0010dc3c => (28, 0x34816cfafaedeb3) ∷
    row 382 0x001098c6 => (6, 0x5b989df1f9e9137a) ∷
    row 383 0x00109eae => (14, 0x34c8aaa785e5f5fa) ∷
    row 384 0x0010bede => (30, 0x9ea1d028238a6612) ∷
    row 385 0x001093bb => (27, 0x55a7ec666e72e5ca) ∷
    row 386 0x0010c6c0 ∷
    row 387 0x0010877f => (31, 0x5538351f4d1f642d) ∷
    row 388 0x0010f401 => (1, 0x470a09e11ef8e670) ∷
    row 389 0x0010e6f0 => (16, 0x131fe3cb96cff266) ∷
    row 390 0x0010f39c => (28, 0x22518f0c98fec254) ∷
    row 391 0x00108054 => (20, 0x9b49d7c279df5d5) ∷
    row 392 0x0010e924 => (4, 0x914ded6e826eda30) ∷
    row 393 0x00109c6c => (12, 0xab14648fc625cd6a) ∷
    row 394 0x00108fa0 ∷
    row 395 0x0010d37d => (29, 0x13d9dd3e623677eb) ∷
    row 396 0x0010fc1e => (30, 0xf3de6231e1cfa3b2) ∷
    row 397 0x0010b074 => (20, 0xcc387a7e1c6a49cf) ∷
    row 398 0x001098c6 => (6, 0x93b5841785d13010) ∷
    row 399 0x0010b9b7 => (23, 0x197a2c8547b12603) ∷
    row 400 0x0010aee8 => (8, 0x1a26ddbf9706990b) ∷
    []) ∷
    -- addi.w
    group 0x0 (
    row 401 0x02800195 with (12, 0) => (21, 0) ∷
    row 402 0x02bffe20 with (17, 0x8000000000000000) ∷
    row 403 0x028007d7 with (30, 0x7fffffff) => (23, 0xffffffff80000000) ∷
    row 404 0x02a00007 => (7, 0xfffffffffffff800) ∷
    row 405 0x029fffd4 with (30, 0xffffffffffffffff) => (20, 0x7fe) ∷
    row 406 0x02bffeb5 with (21, 0x80000000) => (21, 0x7fffffff) ∷
    row 407 0x0280068c with (20, 0xffffffff7fffffff) => (12, 0xffffffff80000000) ∷
    row 408 0x02a001ef with (15, 1) => (15, 0xfffffffffffff801) ∷
    row 409 0x029ffc77 with (3, 0x7fffffffffffffff) => (23, 0x7fe) ∷
    row 410 0x02800060 with (3, 0xffffffff) ∷
    row 411 0x028005b3 with (13, 1) => (19, 2) ∷
    row 412 0x02a0001d => (29, 0xfffffffffffff800) ∷
    row 413 0x029ffda0 with (13, 0xffffffff) ∷
    row 414 0x02800042 with (2, 0) ∷
    row 415 0x02bffeff with (23, 0x8000000000000000) => (31, 0xffffffffffffffff) ∷
    row 416 0x02a003aa with (29, 0x7fffffff) => (10, 0x7ffff7ff) ∷
    row 417 0x029fffb0 with (29, 0xffffffff80000000) => (16, 0xffffffff800007ff) ∷
    row 418 0x02800080 with (4, 0xffffffffffffffff) ∷
    row 419 0x02bffc61 with (3, 0x80000000) => (1, 0x7fffffff) ∷
    row 420 0x02800406 => (6, 1) ∷
    row 421 0x02b174cc => (12, 0x54c619bf) ∷
    row 422 0x02a8b4e7 => (7, 0x6f08d963) ∷
    row 423 0x028a63cc => (12, 0x272d1457) ∷
    row 424 0x029e431a => (26, 0xfffffffff6a792bc) ∷
    row 425 0x02bac588 => (8, 0xffffffffac68c29a) ∷
    row 426 0x02992f60 ∷
    row 427 0x028f28f2 => (18, 0xffffffffe2751a26) ∷
    row 428 0x02885416 => (22, 0x215) ∷
    row 429 0x029e51fb => (27, 0x60b630ec) ∷
    row 430 0x02b665ce => (14, 0xffffffffc62aa55c) ∷
    row 431 0x029d9498 => (24, 0xffffffffd3a78883) ∷
    row 432 0x028f748f => (15, 0xffffffffee2e7e8d) ∷
    row 433 0x02959d57 => (23, 0x7711dd23) ∷
    row 434 0x029ee580 ∷
    row 435 0x02bdab68 => (8, 0xffffffffe77b2414) ∷
    row 436 0x02909410 => (16, 0x425) ∷
    row 437 0x028006ad => (13, 0xffffffffa04a232c) ∷
    row 438 0x02b887de => (30, 0xffffffffe8d43e6f) ∷
    row 439 0x0295bf0d => (13, 0xffffffffcdfa0d79) ∷
    row 440 0x02a3df6a => (10, 0xffffffff8e942b30) ∷
    []) ∷
    -- addi.d
    group 0x0 (
    row 441 0x02c003b6 with (29, 0) => (22, 0) ∷
    row 442 0x02fffee0 with (23, 0x8000000000000000) ∷
    row 443 0x02c00760 with (27, 0x7fffffff) ∷
    row 444 0x02e00003 => (3, 0xfffffffffffff800) ∷
    row 445 0x02dffed7 with (22, 0xffffffffffffffff) => (23, 0x7fe) ∷
    row 446 0x02fffe52 with (18, 0x80000000) => (18, 0x7fffffff) ∷
    row 447 0x02c00623 with (17, 0xffffffff7fffffff) => (3, 0xffffffff80000000) ∷
    row 448 0x02e0024a with (18, 1) => (10, 0xfffffffffffff801) ∷
    row 449 0x02dffe26 with (17, 0x7fffffffffffffff) => (6, 0x80000000000007fe) ∷
    row 450 0x02c00160 with (11, 0xffffffff) ∷
    row 451 0x02c00483 with (4, 1) => (3, 2) ∷
    row 452 0x02e00002 => (2, 0xfffffffffffff800) ∷
    row 453 0x02dffdf0 with (15, 0xffffffff) => (16, 0x1000007fe) ∷
    row 454 0x02c0037b with (27, 0) ∷
    row 455 0x02fffdf3 with (15, 0x8000000000000000) => (19, 0x7fffffffffffffff) ∷
    row 456 0x02e00116 with (8, 0x7fffffff) => (22, 0x7ffff7ff) ∷
    row 457 0x02dffc99 with (4, 0xffffffff80000000) => (25, 0xffffffff800007ff) ∷
    row 458 0x02c00200 with (16, 0xffffffffffffffff) ∷
    row 459 0x02fffd89 with (12, 0x80000000) => (9, 0x7fffffff) ∷
    row 460 0x02c0041b => (27, 1) ∷
    row 461 0x02f933ba => (26, 0x723c395d8d5d45f6) ∷
    row 462 0x02e50442 => (2, 0x5b57d067fa11c044) ∷
    row 463 0x02e095a1 => (1, 0xbe6e3e2b102771fb) ∷
    row 464 0x02ecf6e2 => (2, 0x92e8ae4e9a6923a7) ∷
    row 465 0x02deb757 => (23, 0x97b1d201239ab19c) ∷
    row 466 0x02e05a20 ∷
    row 467 0x02f032e7 => (7, 0xad3311c6e62cc8f3) ∷
    row 468 0x02cda40d => (13, 0x369) ∷
    row 469 0x02ecdd41 => (1, 0x31639d3dd4641d92) ∷
    row 470 0x02d7337b => (27, 0x65e976b9f26dd1e6) ∷
    row 471 0x02e75440 ∷
    row 472 0x02fc3fe0 ∷
    row 473 0x02e54905 => (5, 0xb17b6afb973bddd6) ∷
    row 474 0x02cdb920 ∷
    row 475 0x02e23520 ∷
    row 476 0x02c79412 => (18, 0x1e5) ∷
    row 477 0x02d893f4 => (20, 0x2bbffceb2f2e05ce) ∷
    row 478 0x02cd1a10 => (16, 0x6e4d835f67de3663) ∷
    row 479 0x02c44ca7 => (7, 0x39ee9cf41b86838c) ∷
    row 480 0x02cc40d6 => (22, 0x21a8aec197bfcbb) ∷
    []) ∷
    -- ld.b
    group 0x0 (
    row 481 0x28000035 with (1, 0x20456596f) with (m1, 0) => (21, 0) ∷
    row 482 0x283ffec0 with (22, 0x20488f56f) with (m1, 0x8000000000000000) ∷
    row 483 0x281cddae with (13, 0xfffffffffffffd68) with (m1, 0x7fffffff) with (at, 0x497)
    => (14, 0xffffffffffffffff) ∷
    row 484 0x2810b408 with (m1, 0xffffffff80000000) with (at, 0x425) => (8, 0) ∷
    row 485 0x281ffcdd with (6, 0x4047271ba) with (m1, 0x8000) => (29, 0) ∷
    row 486 0x283fffbd with (29, 0x40430e098) with (m1, 1) => (29, 1) ∷
    row 487 0x28000467 with (3, 0x404278f81) with (m1, 0x7fffffffffffffff)
    => (7, 0xffffffffffffffff) ∷
    row 488 0x2820038f with (28, 0x4abe3d0) with (m1, 0xffffffff) => (15, 0xffffffffffffffff) ∷
    row 489 0x281ffe84 with (20, 0x2041312d6) with (m1, 0x80) => (4, 0xffffffffffffff80) ∷
    row 490 0x28000080 with (4, 0x2045d4c92) with (m1, 0x7fff) ∷
    row 491 0x2817de4e with (18, 0xfffffffffffffe1f) with (m1, 0xffffffffffffffff) with (at, 0x40e)
    => (14, 0xffffffffffffffff) ∷
    row 492 0x28049c16 with (m1, 0x80000000) with (at, 0x11f) => (22, 0) ∷
    row 493 0x281ffed4 with (22, 0x2043834c3) with (m1, 0xffffffff7fffffff)
    => (20, 0xffffffffffffffff) ∷
    row 494 0x280001ef with (15, 0x404638eb3) with (m1, 0x7f) => (15, 0x7f) ∷
    row 495 0x283ffedf with (22, 0x4041c7e08) with (m1, 1) => (31, 1) ∷
    row 496 0x28200287 with (20, 0x4046312bd) with (m1, 0x7fffffffffffffff)
    => (7, 0xffffffffffffffff) ∷
    row 497 0x281ffefb with (23, 0x4e1d782) with (m1, 0xffffffff) => (27, 0xffffffffffffffff) ∷
    row 498 0x280001e0 with (15, 0x443a6fc) with (m1, 0x80) ∷
    row 499 0x28094499 with (4, 0xfffffffffffffe82) with (m1, 0x7fff) with (at, 0xcb)
    => (25, 0xffffffffffffffff) ∷
    row 500 0x2805cc18 with (m1, 0xffffffffffffffff) with (at, 0x16b) => (24, 0xffffffffffffffff) ∷
    row 501 0x28029a5b with (18, 0x2046557c0) => (27, 0x63) ∷
    row 502 0x281ec6f7 with (23, 0x20452e30f) => (23, 0x38) ∷
    row 503 0x283d3d42 with (10, 0x204237083) => (2, 0x35) ∷
    row 504 0x2807700f with (at, 0x1d4) => (15, 0x59) ∷
    row 505 0x283a36a3 with (21, 0x417fe3b) => (3, 0xffffffffffffffa4) ∷
    row 506 0x282aa480 with (4, 0x204e6b4ad) ∷
    row 507 0x28188942 with (10, 0xfffffffffffffded) with (at, 0x407) => (2, 0xffffffffffffffb0) ∷
    row 508 0x280a040b with (at, 0x279) => (11, 0x71) ∷
    row 509 0x2803d52d with (9, 0x4a4765b) => (13, 0x5a) ∷
    row 510 0x281cc8c6 with (6, 0x204a99836) => (6, 0x69) ∷
    row 511 0x2831ddfb with (15, 0x4043c686b) => (27, 0xffffffffffffffa0) ∷
    row 512 0x283e398e with (12, 0x2040772dc) => (14, 0xfffffffffffffffe) ∷
    row 513 0x2825bd3d with (9, 0x40ace90) => (29, 0xffffffffffffff84) ∷
    row 514 0x281e63e0 with (31, 0x2049bb35e) ∷
    row 515 0x281f47ad with (29, 0xfffffffffffff9a6) with (at, 0x16f) => (13, 4) ∷
    row 516 0x280be802 with (at, 0x2f2) => (2, 0) ∷
    row 517 0x283d261d with (16, 0x44aef8c) => (29, 0x22) ∷
    row 518 0x280ac75a with (26, 0x204bcff4f) => (26, 0x6c) ∷
    row 519 0x2816d597 with (12, 0x40412022e) => (23, 0xffffffffffffffdd) ∷
    row 520 0x283f8487 with (4, 0x204f4ab48) => (7, 0x75) ∷
    []) ∷
    -- ld.h
    group 0x0 (
    row 521 0x28400081 with (4, 0x404ba4126) with (m1, 0) => (1, 0) ∷
    row 522 0x287fff20 with (25, 0x4040d7487) with (m1, 0x8000000000000000) ∷
    row 523 0x285b5a6b with (19, 0xfffffffffffffad6) with (m1, 0x7fffffff) with (at, 0x1a4)
    => (11, 0xffffffffffffffff) ∷
    row 524 0x28429c1a with (m1, 0xffffffff80000000) with (at, 0x9f) => (26, 0) ∷
    row 525 0x285fff2b with (25, 0x458b6f6) with (m1, 0x8000) => (11, 0xffffffffffff8000) ∷
    row 526 0x287ffce7 with (7, 0x204e267df) with (m1, 1) => (7, 1) ∷
    row 527 0x284004c2 with (6, 0x4a458d4) with (m1, 0x7fffffffffffffff) => (2, 0xffffffffffffffff)
    ∷
    row 528 0x28600109 with (8, 0x4049e99d8) with (m1, 0xffffffff) => (9, 0xffffffffffffffff) ∷
    row 529 0x2847300e with (m1, 0x80) with (at, 0x1c4) => (14, 0x80) ∷
    row 530 0x28400180 with (12, 0x204e686b2) with (m1, 0x7fff) ∷
    row 531 0x285a3dff with (15, 0xfffffffffffffb66) with (m1, 0xffffffffffffffff) with (at, 0x1ed)
    => (31, 0xffffffffffffffff) ∷
    row 532 0x28560c07 with (m1, 0x80000000) with (at, 0x57b) => (7, 0) ∷
    row 533 0x285ffe99 with (20, 0x404788a5b) with (m1, 0xffffffff7fffffff)
    => (25, 0xffffffffffffffff) ∷
    row 534 0x284000a5 with (5, 0x4c47bad) with (m1, 0x7f) => (5, 0x7f) ∷
    row 535 0x287ffefe with (23, 0x4f357b8) with (m1, 1) => (30, 1) ∷
    row 536 0x2860006d with (3, 0x404052e78) with (m1, 0x7fffffffffffffff)
    => (13, 0xffffffffffffffff) ∷
    row 537 0x285ffcb1 with (5, 0x4044f3548) with (m1, 0xffffffff) => (17, 0xffffffffffffffff) ∷
    row 538 0x284001c0 with (14, 0x426f179) with (m1, 0x80) ∷
    row 539 0x28479631 with (17, 0xffffffffffffff94) with (m1, 0x7fff) with (at, 0x171)
    => (17, 0x7fff) ∷
    row 540 0x2854200a with (m1, 0xffffffffffffffff) with (at, 0x500) => (10, 0xffffffffffffffff) ∷
    row 541 0x285a07fa with (31, 0x4aa6285) => (26, 0x4663) ∷
    row 542 0x285446d6 with (22, 0x2040de305) => (22, 0x775c) ∷
    row 543 0x284b8469 with (3, 0x4045456fd) => (9, 0xffffffffffff807b) ∷
    row 544 0x284f74a3 with (5, 0x2047dba81) => (3, 0x61c2) ∷
    row 545 0x285677ac with (29, 0x48a0ff9) => (12, 0x1b30) ∷
    row 546 0x286958a0 with (5, 0x20479652f) ∷
    row 547 0x285ad697 with (20, 0xfffffffffffffec1) with (at, 0x56e) => (23, 0x1682) ∷
    row 548 0x2853240b with (at, 0x4c1) => (11, 0x5866) ∷
    row 549 0x2851fba1 with (29, 0x204ee3e79) => (1, 0x7271) ∷
    row 550 0x286936d6 with (22, 0x4beb2ce) => (22, 0x64a4) ∷
    row 551 0x2844bbf5 with (31, 0x2041cb373) => (21, 0x2efd) ∷
    row 552 0x284aab57 with (26, 0x2045dac35) => (23, 0xffffffffffffd17e) ∷
    row 553 0x285aa059 with (2, 0x4042c3fd7) => (25, 0x4c26) ∷
    row 554 0x2872c0c0 with (6, 0x433297d) ∷
    row 555 0x2849f776 with (27, 0xfffffffffffffdba) with (at, 0x2f) => (22, 0xffffffffffffc9ed) ∷
    row 556 0x285b9814 with (at, 0x6de) => (20, 0xffffffffffffcd0b) ∷
    row 557 0x284a98f3 with (7, 0x204eec833) => (19, 0xffffffffffffa850) ∷
    row 558 0x284cd56b with (11, 0x2042c1cdb) => (11, 0x5bbd) ∷
    row 559 0x286f7f70 with (27, 0x4f716cb) => (16, 0xffffffffffffe751) ∷
    row 560 0x287d9ba7 with (29, 0x4a4f895) => (7, 0x4b0c) ∷
    []) ∷
    -- ld.w
    group 0x0 (
    row 561 0x28800385 with (28, 0x4e07aaf) with (m1, 0) => (5, 0) ∷
    row 562 0x28bffee0 with (23, 0x404544570) with (m1, 0x8000000000000000) ∷
    row 563 0x288e8bfe with (31, 0xfffffffffffffe50) with (m1, 0x7fffffff) with (at, 0x1ea)
    => (30, 0x7fffffff) ∷
    row 564 0x289de405 with (m1, 0xffffffff80000000) with (at, 0x771) => (5, 0xffffffff80000000) ∷
    row 565 0x289ffdee with (15, 0x204abf8ac) with (m1, 0x8000) => (14, 0x8000) ∷
    row 566 0x28bffc84 with (4, 0x45640f7) with (m1, 1) => (4, 1) ∷
    row 567 0x28800602 with (16, 0x40438c94c) with (m1, 0x7fffffffffffffff)
    => (2, 0xffffffffffffffff) ∷
    row 568 0x28a00133 with (9, 0x404a8f707) with (m1, 0xffffffff) => (19, 0xffffffffffffffff) ∷
    row 569 0x289ffd43 with (10, 0x4045154cf) with (m1, 0x80) => (3, 0x80) ∷
    row 570 0x288000c0 with (6, 0x43212a3) with (m1, 0x7fff) ∷
    row 571 0x289222d4 with (22, 0xfffffffffffffc5c) with (m1, 0xffffffffffffffff) with (at, 0xdc)
    => (20, 0xffffffffffffffff) ∷
    row 572 0x2884641f with (m1, 0x80000000) with (at, 0x111) => (31, 0xffffffff80000000) ∷
    row 573 0x289ffcf7 with (7, 0x425dc6f) with (m1, 0xffffffff7fffffff) => (23, 0x7fffffff) ∷
    row 574 0x28800108 with (8, 0x404e7ba76) with (m1, 0x7f) => (8, 0x7f) ∷
    row 575 0x28bffd20 with (9, 0x48c8338) with (m1, 1) ∷
    row 576 0x28a00159 with (10, 0x204699c04) with (m1, 0x7fffffffffffffff)
    => (25, 0xffffffffffffffff) ∷
    row 577 0x289fffa7 with (29, 0x47ee4e0) with (m1, 0xffffffff) => (7, 0xffffffffffffffff) ∷
    row 578 0x28800220 with (17, 0x204cc8dc6) with (m1, 0x80) ∷
    row 579 0x289c5de6 with (15, 0xfffffffffffffa9c) with (m1, 0x7fff) with (at, 0x1ab)
    => (6, 0x7fff) ∷
    row 580 0x2882d405 with (m1, 0xffffffffffffffff) with (at, 0xad) => (5, 0xffffffffffffffff) ∷
    row 581 0x28818537 with (9, 0x404b1cb15) => (23, 0xefa84d6) ∷
    row 582 0x288027de with (30, 0x48b3734) => (30, 0xc3c7bf1) ∷
    row 583 0x28a7696e with (11, 0x404479be1) => (14, 0xffffffffe5274b33) ∷
    row 584 0x289d862b with (17, 0x204918a3b) => (11, 0xffffffff99baf29d) ∷
    row 585 0x2880f91a with (8, 0x20413d54c) => (26, 0x29f7722e) ∷
    row 586 0x288d2e80 with (20, 0x204ce5e3a) ∷
    row 587 0x289a1a12 with (16, 0xfffffffffffffa4e) with (at, 0xcc) => (18, 0xffffffffdd6af9c6) ∷
    row 588 0x2895fc18 with (at, 0x577) => (24, 0xa201cc) ∷
    row 589 0x2899fa56 with (18, 0x4044faf46) => (22, 0xffffffffff81e1fa) ∷
    row 590 0x28969e73 with (19, 0x20440b1a2) => (19, 0xffffffffda0a9a50) ∷
    row 591 0x28b95b3e with (25, 0x404bf57da) => (30, 0xffffffff903c2acc) ∷
    row 592 0x2883d2ee with (23, 0x404763c30) => (14, 0x22169370) ∷
    row 593 0x288cefbd with (29, 0x404101395) => (29, 0xffffffff8f99d43b) ∷
    row 594 0x2893e3e0 with (31, 0x404e23391) ∷
    row 595 0x288aec89 with (4, 0xfffffffffffffdbe) with (at, 0x71) => (9, 0xfffffffffd9ade47) ∷
    row 596 0x288ce81b with (at, 0x332) => (27, 0xfffffffffe18a788) ∷
    row 597 0x2884a5c3 with (14, 0x454f785) => (3, 0xffffffffda3f48f0) ∷
    row 598 0x28905318 with (24, 0x204b2e132) => (24, 0xffffffff920ec280) ∷
    row 599 0x28a625de with (14, 0x4049e75b7) => (30, 0x25871437) ∷
    row 600 0x28908e64 with (19, 0x46ce7d0) => (4, 0xffffffff94a83e15) ∷
    []) ∷
    -- ld.d
    group 0x0 (
    row 601 0x28c001a7 with (13, 0x20473b0b2) with (m1, 0) => (7, 0) ∷
    row 602 0x28fffd20 with (9, 0x40812d5) with (m1, 0x8000000000000000) ∷
    row 603 0x28d7f283 with (20, 0xfffffffffffffb62) with (m1, 0x7fffffff) with (at, 0x156)
    => (3, 0x7fffffff) ∷
    row 604 0x28cae00b with (m1, 0xffffffff80000000) with (at, 0x2b0) => (11, 0xffffffff80000000) ∷
    row 605 0x28dffd5a with (10, 0x404c18c33) with (m1, 0x8000) => (26, 0x8000) ∷
    row 606 0x28ffffbd with (29, 0x404371689) with (m1, 1) => (29, 1) ∷
    row 607 0x28c004a2 with (5, 0x4e4e0eb) with (m1, 0x7fffffffffffffff) => (2, 0x7fffffffffffffff)
    ∷
    row 608 0x28e0022f with (17, 0x204cafb5c) with (m1, 0xffffffff) => (15, 0xffffffff) ∷
    row 609 0x28dfff1f with (24, 0x404e945da) with (m1, 0x80) => (31, 0x80) ∷
    row 610 0x28c00220 with (17, 0x404ea9b0e) with (m1, 0x7fff) ∷
    row 611 0x28de2978 with (11, 0xfffffffffffff888) with (m1, 0xffffffffffffffff) with (at, 0xa)
    => (24, 0xffffffffffffffff) ∷
    row 612 0x28c8dc07 with (m1, 0x80000000) with (at, 0x22f) => (7, 0x80000000) ∷
    row 613 0x28dffeb0 with (21, 0x4402afe) with (m1, 0xffffffff7fffffff)
    => (16, 0xffffffff7fffffff) ∷
    row 614 0x28c00063 with (3, 0x40477f5bb) with (m1, 0x7f) => (3, 0x7f) ∷
    row 615 0x28fffdca with (14, 0x20492ab33) with (m1, 1) => (10, 1) ∷
    row 616 0x28e00143 with (10, 0x404905b60) with (m1, 0x7fffffffffffffff)
    => (3, 0x7fffffffffffffff) ∷
    row 617 0x28dfffde with (30, 0x4c63b9d) with (m1, 0xffffffff) => (30, 0xffffffff) ∷
    row 618 0x28c000c0 with (6, 0x489d13a) with (m1, 0x80) ∷
    row 619 0x28da6b4a with (26, 0xfffffffffffffaa7) with (m1, 0x7fff) with (at, 0x139)
    => (10, 0x7fff) ∷
    row 620 0x28c22c1c with (m1, 0xffffffffffffffff) with (at, 0x83) => (28, 0xffffffffffffffff) ∷
    row 621 0x28e5627c with (19, 0x20426310a) => (28, 0xe86ec4f9e7bbb8ba) ∷
    row 622 0x28c2394a with (10, 0x404202cfb) => (10, 0x4842557c375f75f8) ∷
    row 623 0x28f2b197 with (12, 0x404527c12) => (23, 0x72f1dd7562ac0b5e) ∷
    row 624 0x28fba055 with (2, 0x467b7c3) => (21, 0x9eb8effb69a178ea) ∷
    row 625 0x28f99b36 with (25, 0x204b53e3e) => (22, 0xdc033ce24c3fbe9e) ∷
    row 626 0x28e3ac80 with (4, 0x43b11c0) ∷
    row 627 0x28c98487 with (4, 0xfffffffffffffe13) with (at, 0x6c) => (7, 0x640fd22aa476d27b) ∷
    row 628 0x28c06c07 with (at, 0x13) => (7, 0xa897c68c1a0fa0a5) ∷
    row 629 0x28d3dbe6 with (31, 0x40473756c) => (6, 0xb179d4e6b5146f6) ∷
    row 630 0x28c3175a with (26, 0x42fbd2e) => (26, 0x38736b87983bc56e) ∷
    row 631 0x28ea5aae with (21, 0x40479a44f) => (14, 0xd11a9e4da0cf1c0d) ∷
    row 632 0x28ef4ac1 with (22, 0x204a676be) => (1, 0x11113174850b4ad4) ∷
    row 633 0x28c9ad55 with (10, 0x20460e132) => (21, 0xb618d52844f051c2) ∷
    row 634 0x28e0bd20 with (9, 0x20453a488) ∷
    row 635 0x28cb5916 with (8, 0xfffffffffffffff3) with (at, 0x2c1) => (22, 0xba1241de57b4e814) ∷
    row 636 0x28dfc816 with (at, 0x7ea) => (22, 0x1f3e5ee0aa947777) ∷
    row 637 0x28c44075 with (3, 0x4d2cc99) => (21, 0x4f467359d91cdf03) ∷
    row 638 0x28ce80e7 with (7, 0x4514e02) => (7, 0x54cdc65fe34e1eb5) ∷
    row 639 0x28dc15cc with (14, 0x4b2c14e) => (12, 0x97709fc6c928368e) ∷
    row 640 0x28d12045 with (2, 0x4044c82c8) => (5, 0xa95863ba8aab268f) ∷
    []) ∷
    -- st.b
    group 0x0 (
    row 641 0x290000f2 with (7, 0x204c93886) with (18, 0) => (m1, 0xfe96020f27d6ee00) ∷
    row 642 0x293ffe00 with (16, 0x204d3875f) => (m1, 0x1cde36f0a0ab8f00) ∷
    row 643 0x290fda2b with (11, 0x7fffffff) with (17, 0xfffffffffffffc6b) with (at, 0x59)
    => (m1, 0x84b69a32f52907ff) ∷
    row 644 0x291b1014 with (20, 0xffffffff80000000) with (at, 0x6bc) => (m1, 0xb76af4ec254f5800) ∷
    row 645 0x291ffe9e with (20, 0x404eec6e0) with (30, 0x8000) => (m1, 0x29d26832311e8000) ∷
    row 646 0x293ffe73 with (19, 0x204da3ded) => (m1, 0x6f2187d9189681ed) ∷
    row 647 0x29000553 with (10, 0x4534a5a) with (19, 0x7fffffffffffffff)
    => (m1, 0xede96c0cdbb75aff) ∷
    row 648 0x292002f4 with (20, 0xffffffff) with (23, 0x404a6d7) => (m1, 0x45d350a17a810cff) ∷
    row 649 0x291ffcd8 with (6, 0x2044388b6) with (24, 0x80) => (m1, 0x68992cacf4f39580) ∷
    row 650 0x290003a0 with (29, 0x20465754b) => (m1, 0x3b804f454b0ef700) ∷
    row 651 0x29186837 with (1, 0xffffffffffffffb2) with (23, 0xffffffffffffffff) with (at, 0x5c4)
    => (m1, 0x70e0f03e7cd330ff) ∷
    row 652 0x29087816 with (22, 0x80000000) with (at, 0x216) => (m1, 0x502883c48a404200) ∷
    row 653 0x291ffe1f with (16, 0x4c77608) with (31, 0xffffffff7fffffff)
    => (m1, 0x9823e9ab73562cff) ∷
    row 654 0x29000108 with (8, 0x4752d7c) => (m1, 0x83cbee1f3814ee7c) ∷
    row 655 0x293fffe4 with (4, 1) with (31, 0x2045b24ff) => (m1, 0xde6218f3d87c8901) ∷
    row 656 0x29200209 with (9, 0x7fffffffffffffff) with (16, 0x4cec1e3) => (m1, 0x3d43b3f548cfbff)
    ∷
    row 657 0x291fff87 with (7, 0xffffffff) with (28, 0x4cfe42b) => (m1, 0x439b7e17ac4646ff) ∷
    row 658 0x290002c0 with (22, 0x4045ebbd3) => (m1, 0x7ba86550dfa86800) ∷
    row 659 0x290f30a3 with (3, 0x7fff) with (5, 0xffffffffffffffe4) with (at, 0x3a8)
    => (m1, 0xc7d01916eeb363ff) ∷
    row 660 0x2918400b with (11, 0xffffffffffffffff) with (at, 0x608) => (m1, 0x1277c53dd96736ff) ∷
    row 661 0x29176802 with (at, 0x5d2) => (m1, 0x6affe9f19fc3e221) ∷
    row 662 0x292c7cc6 with (6, 0x204777a88) => (m1, 0xc8425b0641c96588) ∷
    row 663 0x29292d1e with (8, 0x20475089c) => (m1, 0xf060c391bf77c097) ∷
    row 664 0x29011a25 with (17, 0x404558299) => (m1, 0x9d0826aa18cef474) ∷
    row 665 0x291487a1 with (29, 0x20418f06e) => (m1, 0xd7c154234dcf00bb) ∷
    row 666 0x291eec00 with (at, 0x7b3) => (m1, 0x90c928295e77e400) ∷
    row 667 0x2906fce8 with (7, 0xfffffffffffffefb) with (at, 0xb2) => (m1, 0xde1d1a904ac9a04b) ∷
    row 668 0x2910fc1d with (at, 0x437) => (m1, 0xa3855f8412c434b6) ∷
    row 669 0x293f014a with (10, 0x4043bbc) => (m1, 0x37416d8b667a1bc) ∷
    row 670 0x2902ff18 with (24, 0x204e115ae) => (m1, 0x2e3ec5a435b3e5ae) ∷
    row 671 0x29139546 with (10, 0x404f63486) => (m1, 0x47c648fc90a90278) ∷
    row 672 0x29094a78 with (19, 0x404ee4ccf) => (m1, 0x852bbcb5c746f7e0) ∷
    row 673 0x291a82ee with (23, 0x20473fb9a) => (m1, 0xab13b0fbd98dc484) ∷
    row 674 0x2919c4e0 with (7, 0x404dca199) => (m1, 0xfb13e9a2c77d6900) ∷
    row 675 0x2906742a with (1, 0xffffffffffffff55) with (at, 0xea) => (m1, 0x15f019c09115e78c) ∷
    row 676 0x290c8802 with (at, 0x31a) => (m1, 0x8ff74c6b36573cb7) ∷
    row 677 0x2904fb2d with (25, 0x468488c) => (m1, 0xbd6e4176b7416af6) ∷
    row 678 0x292a4f7b with (27, 0x404b2153b) => (m1, 0x43d5e50f13d4703b) ∷
    row 679 0x2913cb15 with (24, 0x404896e43) => (m1, 0x83e79f084c104e22) ∷
    row 680 0x290243f8 with (31, 0x40443c8c4) => (m1, 0x16afb38e5ff50498) ∷
    []) ∷
    -- st.h
    group 0x0 (
    row 681 0x29400295 with (20, 0x4e1122b) with (21, 0) => (m1, 0x695c32754f820000) ∷
    row 682 0x297ffe40 with (18, 0x204614dba) => (m1, 0x86e4a8d31ab80000) ∷
    row 683 0x295fc514 with (8, 0xfffffffffffff98c) with (20, 0x7fffffff) with (at, 0x175)
    => (m1, 0x6dcbfbbdc198ffff) ∷
    row 684 0x295e4811 with (17, 0xffffffff80000000) with (at, 0x78a) => (m1, 0x9def370944200000) ∷
    row 685 0x295ffca2 with (2, 0x8000) with (5, 0x433a8b4) => (m1, 0x9136fae1a2518000) ∷
    row 686 0x297fff18 with (24, 0x2043fb721) => (m1, 0xd3f4fb1adc2bb721) ∷
    row 687 0x294007a9 with (9, 0x7fffffffffffffff) with (29, 0x484059a) => (m1, 0xd39d2fe0f1adffff)
    ∷
    row 688 0x296000ae with (5, 0x20400a422) with (14, 0xffffffff) => (m1, 0x28f5f507e2d9ffff) ∷
    row 689 0x295ffe06 with (6, 0x80) with (16, 0x4b572b8) => (m1, 0x492ab1a5afad0080) ∷
    row 690 0x29400220 with (17, 0x404a2a158) => (m1, 0x9cf224d0582a0000) ∷
    row 691 0x294860ab with (5, 0xfffffffffffffe82) with (11, 0xffffffffffffffff) with (at, 0x92)
    => (m1, 0xcfc1a65bdc50ffff) ∷
    row 692 0x2941c815 with (21, 0x80000000) with (at, 0x6a) => (m1, 0x2fe98a743c1f0000) ∷
    row 693 0x295ffd74 with (11, 0x41112e3) with (20, 0xffffffff7fffffff)
    => (m1, 0x7553d0ed7797ffff) ∷
    row 694 0x29400063 with (3, 0x20434b70d) => (m1, 0xe1dc25f38eb7b70d) ∷
    row 695 0x297ffdcd with (13, 1) with (14, 0x4e5f09c) => (m1, 0x39e1315a81810001) ∷
    row 696 0x29600230 with (16, 0x7fffffffffffffff) with (17, 0x20424cf8b)
    => (m1, 0x5cc234384ff3ffff) ∷
    row 697 0x295fff25 with (5, 0xffffffff) with (25, 0x4f133df) => (m1, 0x1d69c7a2fa0effff) ∷
    row 698 0x29400180 with (12, 0x4f5f83e) => (m1, 0x52e58f6e7fd20000) ∷
    row 699 0x295d30f0 with (7, 0xfffffffffffffc29) with (16, 0x7fff) with (at, 0x36d)
    => (m1, 0x1fed93c6e13e7fff) ∷
    row 700 0x295ee40a with (10, 0xffffffffffffffff) with (at, 0x7b1) => (m1, 0x680420801e54ffff) ∷
    row 701 0x2963b2fd with (23, 0x40455e4bf) => (m1, 0x7af6a4b03713cae8) ∷
    row 702 0x2968f4c6 with (6, 0x404e66aad) => (m1, 0x9c1de76d2b7a6aad) ∷
    row 703 0x294031ca with (14, 0x459ded5) => (m1, 0xc1ab308afb8a056c) ∷
    row 704 0x296026e4 with (23, 0x45afe31) => (m1, 0xef32e435a743a58d) ∷
    row 705 0x2941a734 with (25, 0x43effe2) => (m1, 0x275af2412ea593e5) ∷
    row 706 0x294a5ac0 with (22, 0x4045b4fd2) => (m1, 0x614316d991af0000) ∷
    row 707 0x294e9d00 with (8, 0xfffffffffffffdec) with (at, 0x18b) => (m1, 0xac05e9d2d0630000) ∷
    row 708 0x294d440e with (at, 0x349) => (m1, 0xc1a4b442eabf77a0) ∷
    row 709 0x2956b864 with (3, 0x40401f362) => (m1, 0x4fac173fe0c48056) ∷
    row 710 0x2954c529 with (9, 0x404aa10dc) => (m1, 0x77e5a69db27210dc) ∷
    row 711 0x29727dcb with (14, 0x4dfd3ce) => (m1, 0x124d7a885fc95f60) ∷
    row 712 0x294ee405 with (at, 0x3b1) => (m1, 0x4d21ced3e8c99b18) ∷
    row 713 0x2969fdf6 with (15, 0x4f422d4) => (m1, 0xf3ea13ac4d72ced6) ∷
    row 714 0x295a24e0 with (7, 0x47d53fb) => (m1, 0x41592ce58dc30000) ∷
    row 715 0x2945daee with (23, 0xffffffffffffff67) with (at, 0xd5) => (m1, 0x59a43d95a9bd6266) ∷
    row 716 0x295ae410 with (at, 0x6b1) => (m1, 0x548bc0d2a160f6df) ∷
    row 717 0x296396f9 with (23, 0x404c01ed6) => (m1, 0x7f71967074acde11) ∷
    row 718 0x297704e7 with (7, 0x2042a7760) => (m1, 0x86b98a9b23a17760) ∷
    row 719 0x297657a4 with (29, 0x40477c7a9) => (m1, 0xc43a2526ae3f8969) ∷
    row 720 0x296e5478 with (3, 0x404a80c7e) => (m1, 0xd7e28a3f14856e77) ∷
    []) ∷
    -- st.w
    group 0x0 (
    row 721 0x29800078 with (3, 0x41092f6) with (24, 0) => (m1, 0x27fde9b800000000) ∷
    row 722 0x29bffc60 with (3, 0x45c1091) => (m1, 0x42f540a800000000) ∷
    row 723 0x29843353 with (19, 0x7fffffff) with (26, 0xffffffffffffff18) with (at, 0x1c)
    => (m1, 0xaabce4257fffffff) ∷
    row 724 0x298d2011 with (17, 0xffffffff80000000) with (at, 0x340) => (m1, 0xd84f000380000000) ∷
    row 725 0x299fffe2 with (2, 0x8000) with (31, 0x43adc58) => (m1, 0x4c77146d00008000) ∷
    row 726 0x29bffe73 with (19, 0x4122cd1) => (m1, 0x8ca3f53904122cd1) ∷
    row 727 0x298005dd with (14, 0x2047712aa) with (29, 0x7fffffffffffffff)
    => (m1, 0xd2c7a91ffffffff) ∷
    row 728 0x29a0026f with (15, 0xffffffff) with (19, 0x4144894) => (m1, 0x5ff4204bffffffff) ∷
    row 729 0x299ca011 with (17, 0x80) with (at, 0x720) => (m1, 0x7d97bd7b00000080) ∷
    row 730 0x29800220 with (17, 0x2044cc9e1) => (m1, 0x523f813800000000) ∷
    row 731 0x29864e15 with (16, 0xfffffffffffffe85) with (21, 0xffffffffffffffff) with (at, 0x10)
    => (m1, 0x827de356ffffffff) ∷
    row 732 0x2991a007 with (7, 0x80000000) with (at, 0x460) => (m1, 0x6386180080000000) ∷
    row 733 0x299ffdb2 with (13, 0x4047256e3) with (18, 0xffffffff7fffffff)
    => (m1, 0xa65f3f0c7fffffff) ∷
    row 734 0x298000e7 with (7, 0x2040be7c4) => (m1, 0xb4145d8e040be7c4) ∷
    row 735 0x29bfffaf with (15, 1) with (29, 0x204ddb8b4) => (m1, 0xe93bd09e00000001) ∷
    row 736 0x29a001a7 with (7, 0x7fffffffffffffff) with (13, 0x2043d2f04)
    => (m1, 0x98bb40effffffff) ∷
    row 737 0x299ffd41 with (1, 0xffffffff) with (10, 0x42a2ab9) => (m1, 0x4b13980bffffffff) ∷
    row 738 0x29800080 with (4, 0x4a4dbce) => (m1, 0x7dfe406800000000) ∷
    row 739 0x298da7fd with (29, 0x7fff) with (31, 0xfffffffffffffe54) with (at, 0x1b5)
    => (m1, 0xcbe6955300007fff) ∷
    row 740 0x299f7c1b with (27, 0xffffffffffffffff) with (at, 0x7d7) => (m1, 0x116c029fffffffff) ∷
    row 741 0x2992fce7 with (7, 0x204bbd7f5) => (m1, 0x21cd676104bbd7f5) ∷
    row 742 0x29939129 with (9, 0x46cf670) => (m1, 0xc3d4fab0046cf670) ∷
    row 743 0x298cc9f4 with (15, 0x4565ecf) => (m1, 0xe6d1246124619209) ∷
    row 744 0x29a03c48 with (2, 0x4047818ab) => (m1, 0x9539289ecfc9efd3) ∷
    row 745 0x29b7c536 with (9, 0x404d20990) => (m1, 0xcad0173ba0191bdb) ∷
    row 746 0x29b48980 with (12, 0x4040ef3de) => (m1, 0x85988c6600000000) ∷
    row 747 0x29850a49 with (18, 0xffffffffffffff21) with (at, 0x5b) => (m1, 0xcdca3ff2335e2102) ∷
    row 748 0x298b041d with (at, 0x2b9) => (m1, 0xe0d7eaf45d631d5f) ∷
    row 749 0x29ae93b7 with (29, 0x46cb77d) => (m1, 0xefbf9e8342f55f49) ∷
    row 750 0x29bf22b5 with (21, 0x4043567b6) => (m1, 0x15680e74043567b6) ∷
    row 751 0x29b32788 with (28, 0x48bbc76) => (m1, 0x30b032f1886cedca) ∷
    row 752 0x299d9ab4 with (21, 0x2041a4ba6) => (m1, 0x68f367ce3670a60a) ∷
    row 753 0x29a3bfd2 with (30, 0x2048be6a2) => (m1, 0x909bfd39f98d53b5) ∷
    row 754 0x29b4ff80 with (28, 0x204e0618f) => (m1, 0xdb79f70500000000) ∷
    row 755 0x2994714b with (10, 0xfffffffffffffd53) with (at, 0x267) => (m1, 0xf133e847aca58b9c) ∷
    row 756 0x2982281e with (at, 0x82) => (m1, 0x6cfbbc16a92caa6b) ∷
    row 757 0x2985f8e2 with (7, 0x2042f8b55) => (m1, 0x95507247903d037f) ∷
    row 758 0x29b4d16b with (11, 0x404652f10) => (m1, 0x1d78b70404652f10) ∷
    row 759 0x2982db23 with (25, 0x4286862) => (m1, 0x58683221f7766d71) ∷
    row 760 0x2998ef73 with (27, 0x423e7be) => (m1, 0x5e33a4b6ef01cfda) ∷
    []) ∷
    -- st.d
    group 0x0 (
    row 761 0x29c00322 with (2, 0) with (25, 0x40457bae6) => (m1, 0) ∷
    row 762 0x29fffec0 with (22, 0x4192538) => (m1, 0) ∷
    row 763 0x29cd1d59 with (10, 0xfffffffffffffe2e) with (25, 0x7fffffff) with (at, 0x16d)
    => (m1, 0x7fffffff) ∷
    row 764 0x29c6081b with (27, 0xffffffff80000000) with (at, 0x17a) => (m1, 0xffffffff80000000) ∷
    row 765 0x29dffdd6 with (14, 0x459b722) with (22, 0x8000) => (m1, 0x8000) ∷
    row 766 0x29fffe94 with (20, 0x4a6f451) => (m1, 0x4a6f451) ∷
    row 767 0x29c005c4 with (4, 0x7fffffffffffffff) with (14, 0x40481c6e0)
    => (m1, 0x7fffffffffffffff) ∷
    row 768 0x29e002ce with (14, 0xffffffff) with (22, 0x4ea3ed6) => (m1, 0xffffffff) ∷
    row 769 0x29dffd35 with (9, 0x204e03c2d) with (21, 0x80) => (m1, 0x80) ∷
    row 770 0x29c00080 with (4, 0x404b9443a) => (m1, 0) ∷
    row 771 0x29cccfdd with (29, 0xffffffffffffffff) with (30, 0xffffffffffffff64) with (at, 0x28f)
    => (m1, 0xffffffffffffffff) ∷
    row 772 0x29cc9c09 with (9, 0x80000000) with (at, 0x31f) => (m1, 0x80000000) ∷
    row 773 0x29dffeda with (22, 0x20495ecb5) with (26, 0xffffffff7fffffff)
    => (m1, 0xffffffff7fffffff) ∷
    row 774 0x29c00231 with (17, 0x404fabfa1) => (m1, 0x404fabfa1) ∷
    row 775 0x29fffda4 with (4, 1) with (13, 0x497d29d) => (m1, 1) ∷
    row 776 0x29e0009e with (4, 0x2046d35a3) with (30, 0x7fffffffffffffff)
    => (m1, 0x7fffffffffffffff) ∷
    row 777 0x29dffeb2 with (18, 0xffffffff) with (21, 0x47ac8b9) => (m1, 0xffffffff) ∷
    row 778 0x29d38c00 with (at, 0x4db) => (m1, 0) ∷
    row 779 0x29dd6af5 with (21, 0x7fff) with (23, 0xfffffffffffff945) with (at, 0x97)
    => (m1, 0x7fff) ∷
    row 780 0x29d64c1f with (31, 0xffffffffffffffff) with (at, 0x58b) => (m1, 0xffffffffffffffff) ∷
    row 781 0x29fa0196 with (12, 0x48ed9b8) => (m1, 0xc5472e2220240e43) ∷
    row 782 0x29d43e73 with (19, 0x2040b33d4) => (m1, 0x2040b33d4) ∷
    row 783 0x29db3f59 with (26, 0x204153022) => (m1, 0x29d3dc54bd3568b6) ∷
    row 784 0x29c1ae8d with (20, 0x4577ca1) => (m1, 0xdf147ae0b191c7ff) ∷
    row 785 0x29eede65 with (19, 0x2042764d2) => (m1, 0x2218feff87b00152) ∷
    row 786 0x29d3d020 with (1, 0x204da31ca) => (m1, 0) ∷
    row 787 0x29d9b6b8 with (21, 0xfffffffffffffd66) with (at, 0x3cb) => (m1, 0xc35929aa29d688ac) ∷
    row 788 0x29c9fc17 with (at, 0x277) => (m1, 0x20c3a35aa0c66665) ∷
    row 789 0x29c79e47 with (18, 0x40499bd1a) => (m1, 0x27562346b0ac456b) ∷
    row 790 0x29d35ca5 with (5, 0x404d85b3e) => (m1, 0x404d85b3e) ∷
    row 791 0x29e274dd with (6, 0x44f509a) => (m1, 0x4ecb506dc254d229) ∷
    row 792 0x29ed2ee4 with (23, 0x204fe7f1a) => (m1, 0x139098c8016f4063) ∷
    row 793 0x29d31c37 with (1, 0x43b442f) => (m1, 0x93f23fa371d089d2) ∷
    row 794 0x29d0faa0 with (21, 0x2045b0600) => (m1, 0) ∷
    row 795 0x29d88f3b with (25, 0xfffffffffffffd87) with (at, 0x3a2) => (m1, 0x2ec8530bfba8df41) ∷
    row 796 0x29c2200f with (at, 0x80) => (m1, 0xba26aea1af320a7) ∷
    row 797 0x29e8a353 with (26, 0x4b6aee9) => (m1, 0x2b14b77e3ab8823) ∷
    row 798 0x29f69821 with (1, 0x40ce23d) => (m1, 0x40ce23d) ∷
    row 799 0x29c52c0f with (at, 0x143) => (m1, 0x8b1e2133df07e9aa) ∷
    row 800 0x29d6f3cf with (30, 0x404621ff2) => (m1, 0x7b4c7140d7b5dcfa) ∷
    []) ∷
    -- ld.bu
    group 0x0 (
    row 801 0x2a000304 with (24, 0x204b689fd) with (m1, 0) => (4, 0) ∷
    row 802 0x2a3ffcc0 with (6, 0x404988baf) with (m1, 0x8000000000000000) ∷
    row 803 0x2a077371 with (27, 0xffffffffffffff22) with (m1, 0x7fffffff) with (at, 0xf6)
    => (17, 0xff) ∷
    row 804 0x2a114010 with (m1, 0xffffffff80000000) with (at, 0x448) => (16, 0) ∷
    row 805 0x2a1ffdba with (13, 0x4e58e67) with (m1, 0x8000) => (26, 0) ∷
    row 806 0x2a3ffca5 with (5, 0x4fe0da2) with (m1, 1) => (5, 1) ∷
    row 807 0x2a0006b6 with (21, 0x204a4223d) with (m1, 0x7fffffffffffffff) => (22, 0xff) ∷
    row 808 0x2a200291 with (20, 0x4d7dc3e) with (m1, 0xffffffff) => (17, 0xff) ∷
    row 809 0x2a1fffb1 with (29, 0x443c64c) with (m1, 0x80) => (17, 0x80) ∷
    row 810 0x2a000060 with (3, 0x43d65ba) with (m1, 0x7fff) ∷
    row 811 0x2a0b861a with (16, 0xfffffffffffffe00) with (m1, 0xffffffffffffffff) with (at, 0xd9)
    => (26, 0xff) ∷
    row 812 0x2a088c01 with (m1, 0x80000000) with (at, 0x21b) => (1, 0) ∷
    row 813 0x2a1fffd2 with (30, 0x4267f02) with (m1, 0xffffffff7fffffff) => (18, 0xff) ∷
    row 814 0x2a0adc00 with (m1, 0x7f) with (at, 0x2af) ∷
    row 815 0x2a3ffc5e with (2, 0x204143e56) with (m1, 1) => (30, 1) ∷
    row 816 0x2a2003a8 with (29, 0x404b4e368) with (m1, 0x7fffffffffffffff) => (8, 0xff) ∷
    row 817 0x2a1ffca7 with (5, 0x4e30ddf) with (m1, 0xffffffff) => (7, 0xff) ∷
    row 818 0x2a000040 with (2, 0x49eedb6) with (m1, 0x80) ∷
    row 819 0x2a1989bf with (13, 0xfffffffffffffe35) with (m1, 0x7fff) with (at, 0x48f)
    => (31, 0xff) ∷
    row 820 0x2a0b1c1a with (m1, 0xffffffffffffffff) with (at, 0x2bf) => (26, 0xff) ∷
    row 821 0x2a2e7270 with (19, 0x4ced49b) => (16, 0xe0) ∷
    row 822 0x2a3c93ff with (31, 0x2046bc91f) => (31, 0xcc) ∷
    row 823 0x2a136103 with (8, 0x4410385) => (3, 0xdf) ∷
    row 824 0x2a00136e with (27, 0x404a3e5d4) => (14, 0x1a) ∷
    row 825 0x2a2e7a9e with (20, 0x4946519) => (30, 0x7c) ∷
    row 826 0x2a1fd5a0 with (13, 0x204bd1bad) ∷
    row 827 0x2a191570 with (11, 0xfffffffffffffe7b) with (at, 0x4b8) => (16, 0xb6) ∷
    row 828 0x2a0fb01b with (at, 0x3e4) => (27, 0x8e) ∷
    row 829 0x2a175723 with (25, 0x204de6c33) => (3, 0x8d) ∷
    row 830 0x2a0faf5a with (26, 0x40492fbe7) => (26, 0xb3) ∷
    row 831 0x2a2f6cc9 with (6, 0x42a847a) => (9, 1) ∷
    row 832 0x2a399966 with (11, 0x2044f9fd3) => (6, 0x76) ∷
    row 833 0x2a159d00 with (8, 0x4acfec4) ∷
    row 834 0x2a377aa0 with (21, 0x404ed5ef6) ∷
    row 835 0x2a11a5a5 with (13, 0xfffffffffffffdb1) with (at, 0x212) => (5, 0xc1) ∷
    row 836 0x2a1e7004 with (at, 0x794) => (4, 0xd3) ∷
    row 837 0x2a053147 with (10, 0x2040015d3) => (7, 0xc) ∷
    row 838 0x2a23a863 with (3, 0x404cc41bd) => (3, 0x6c) ∷
    row 839 0x2a35e1f1 with (15, 0x204d0a8c5) => (17, 0xf4) ∷
    row 840 0x2a200488 with (4, 0x404b80c89) => (8, 0xa3) ∷
    []) ∷
    -- ld.hu
    group 0x0 (
    row 841 0x2a4002e7 with (23, 0x4d7aae5) with (m1, 0) => (7, 0) ∷
    row 842 0x2a7ffd80 with (12, 0x40484eea2) with (m1, 0x8000000000000000) ∷
    row 843 0x2a5eaafb with (23, 0xfffffffffffffa8b) with (m1, 0x7fffffff) with (at, 0x22d)
    => (27, 0xffff) ∷
    row 844 0x2a45f01b with (m1, 0xffffffff80000000) with (at, 0x174) => (27, 0) ∷
    row 845 0x2a5fff8b with (28, 0x204890cd2) with (m1, 0x8000) => (11, 0x8000) ∷
    row 846 0x2a7ffd8c with (12, 0x204c2236e) with (m1, 1) => (12, 1) ∷
    row 847 0x2a400563 with (11, 0x20488cf6a) with (m1, 0x7fffffffffffffff) => (3, 0xffff) ∷
    row 848 0x2a600105 with (8, 0x204dd20cc) with (m1, 0xffffffff) => (5, 0xffff) ∷
    row 849 0x2a5ffc56 with (2, 0x204bef790) with (m1, 0x80) => (22, 0x80) ∷
    row 850 0x2a4002c0 with (22, 0x4042e83b4) with (m1, 0x7fff) ∷
    row 851 0x2a48083c with (1, 0xffffffffffffffdb) with (m1, 0xffffffffffffffff) with (at, 0x1d5)
    => (28, 0xffff) ∷
    row 852 0x2a4a980f with (m1, 0x80000000) with (at, 0x29e) => (15, 0) ∷
    row 853 0x2a5fff93 with (28, 0x40479631f) with (m1, 0xffffffff7fffffff) => (19, 0xffff) ∷
    row 854 0x2a4000c6 with (6, 0x20474ba23) with (m1, 0x7f) => (6, 0x7f) ∷
    row 855 0x2a7ffd33 with (9, 0x4fda68b) with (m1, 1) => (19, 1) ∷
    row 856 0x2a6002b4 with (21, 0x204bee2fe) with (m1, 0x7fffffffffffffff) => (20, 0xffff) ∷
    row 857 0x2a5fffdf with (30, 0x204b84f80) with (m1, 0xffffffff) => (31, 0xffff) ∷
    row 858 0x2a400080 with (4, 0x43f7163) with (m1, 0x80) ∷
    row 859 0x2a4f94c8 with (6, 0xfffffffffffffddb) with (m1, 0x7fff) with (at, 0x1b8)
    => (8, 0x7fff) ∷
    row 860 0x2a4b6c14 with (m1, 0xffffffffffffffff) with (at, 0x2d3) => (20, 0xffff) ∷
    row 861 0x2a4cc911 with (8, 0x4047bc17f) => (17, 0x1270) ∷
    row 862 0x2a59a000 with (at, 0x660) ∷
    row 863 0x2a44e886 with (4, 0x4d9d50a) => (6, 0xaeb6) ∷
    row 864 0x2a459e7f with (19, 0x20407f464) => (31, 0xc113) ∷
    row 865 0x2a4f2467 with (3, 0x204c3aeec) => (7, 0xab98) ∷
    row 866 0x2a6f1f40 with (26, 0x204b7bbe5) ∷
    row 867 0x2a5a00a5 with (5, 0xfffffffffffffb53) with (at, 0x1cb) => (5, 0x918) ∷
    row 868 0x2a509c00 with (at, 0x41f) ∷
    row 869 0x2a6d8e62 with (19, 0x404e57b7c) => (2, 0xc735) ∷
    row 870 0x2a56bc84 with (4, 0x2040febb1) => (4, 0xea7e) ∷
    row 871 0x2a4d0a76 with (19, 0x20472b0ac) => (22, 0xe5ee) ∷
    row 872 0x2a7e5fd2 with (30, 0x204631447) => (18, 0xb986) ∷
    row 873 0x2a7fbc3d with (1, 0x204366697) => (29, 0x6545) ∷
    row 874 0x2a689700 with (24, 0x404975c6b) ∷
    row 875 0x2a4aa13e with (9, 0xfffffffffffffde4) with (at, 0x84) => (30, 0x4539) ∷
    row 876 0x2a550419 with (at, 0x539) => (25, 0x796e) ∷
    row 877 0x2a5ac245 with (18, 0x4046125a3) => (5, 0x85ca) ∷
    row 878 0x2a57d631 with (17, 0x204a3369d) => (17, 0x6a4e) ∷
    row 879 0x2a55bcfe with (7, 0x4c83a1a) => (30, 0x26f8) ∷
    row 880 0x2a40481f with (at, 0xa) => (31, 0xbbca) ∷
    []) ∷
    -- ld.wu
    group 0x0 (
    row 881 0x2a800202 with (16, 0x2041072f2) with (m1, 0) => (2, 0) ∷
    row 882 0x2abfff00 with (24, 0x40433a366) with (m1, 0x8000000000000000) ∷
    row 883 0x2a97ca21 with (17, 0xffffffffffffffb3) with (m1, 0x7fffffff) with (at, 0x59d)
    => (1, 0x7fffffff) ∷
    row 884 0x2a91b41f with (m1, 0xffffffff80000000) with (at, 0x465) => (31, 0x80000000) ∷
    row 885 0x2a9fff9b with (28, 0x404443263) with (m1, 0x8000) => (27, 0x8000) ∷
    row 886 0x2abffc84 with (4, 0x4488b0b) with (m1, 1) => (4, 1) ∷
    row 887 0x2a800465 with (3, 0x4048523bd) with (m1, 0x7fffffffffffffff) => (5, 0xffffffff) ∷
    row 888 0x2aa00324 with (25, 0x204fa0c80) with (m1, 0xffffffff) => (4, 0xffffffff) ∷
    row 889 0x2a9ffcf0 with (7, 0x204fc7aa5) with (m1, 0x80) => (16, 0x80) ∷
    row 890 0x2a8001a0 with (13, 0x4043748d5) with (m1, 0x7fff) ∷
    row 891 0x2a8500a7 with (5, 0xffffffffffffffdb) with (m1, 0xffffffffffffffff) with (at, 0x113)
    => (7, 0xffffffff) ∷
    row 892 0x2a85e814 with (m1, 0x80000000) with (at, 0x172) => (20, 0x80000000) ∷
    row 893 0x2a9ffde2 with (15, 0x48e990e) with (m1, 0xffffffff7fffffff) => (2, 0x7fffffff) ∷
    row 894 0x2a80014a with (10, 0x455321d) with (m1, 0x7f) => (10, 0x7f) ∷
    row 895 0x2abffe4d with (18, 0x404a96090) with (m1, 1) => (13, 1) ∷
    row 896 0x2aa003c4 with (30, 0x4e089ba) with (m1, 0x7fffffffffffffff) => (4, 0xffffffff) ∷
    row 897 0x2a9ffdb0 with (13, 0x2044fe2f2) with (m1, 0xffffffff) => (16, 0xffffffff) ∷
    row 898 0x2a800220 with (17, 0x4f79c36) with (m1, 0x80) ∷
    row 899 0x2a8eea72 with (19, 0xfffffffffffffe78) with (m1, 0x7fff) with (at, 0x22a)
    => (18, 0x7fff) ∷
    row 900 0x2a9cbc10 with (m1, 0xffffffffffffffff) with (at, 0x727) => (16, 0xffffffff) ∷
    row 901 0x2a99ff01 with (24, 0x404eb047d) => (1, 0x40c6fc73) ∷
    row 902 0x2aab0bff with (31, 0x40473e1b3) => (31, 0xd11724a5) ∷
    row 903 0x2ab7a781 with (28, 0x204dfa2bd) => (1, 0x3d1024fe) ∷
    row 904 0x2aa533b2 with (29, 0x483b398) => (18, 0x84b1fd7f) ∷
    row 905 0x2a885800 with (at, 0x20e) ∷
    row 906 0x2a9e6fa0 with (29, 0x47495ec) ∷
    row 907 0x2a86ce4d with (18, 0xfffffffffffffeb6) with (at, 0x61) => (13, 0x818c97ec) ∷
    row 908 0x2a93bc18 with (at, 0x4e7) => (24, 0x37d1d109) ∷
    row 909 0x2a82c2af with (21, 0x204597782) => (15, 0xc9bfe24e) ∷
    row 910 0x2a962484 with (4, 0x4a4848b) => (4, 0x3756cbba) ∷
    row 911 0x2a8434d4 with (6, 0x2047d384b) => (20, 0x80968d4e) ∷
    row 912 0x2a99e8cf with (6, 0x438d4da) => (15, 0xa57f2708) ∷
    row 913 0x2ab607f3 with (31, 0x404d77286) => (19, 0xa61098ea) ∷
    row 914 0x2a85f9e0 with (15, 0x40403a09f) ∷
    row 915 0x2a9ed2ee with (23, 0xfffffffffffffc82) with (at, 0x42e) => (14, 0x3a2e0524) ∷
    row 916 0x2a9fcc1a with (at, 0x7eb) => (26, 0xcdb9ff7c) ∷
    row 917 0x2aa3f74c with (26, 0x4d9efb1) => (12, 0x3ceed1fb) ∷
    row 918 0x2ab2ffff with (31, 0x491e8e4) => (31, 0x87cc7ca1) ∷
    row 919 0x2a99b2f6 with (23, 0x4822439) => (22, 0xae52ff6e) ∷
    row 920 0x2abcd18e with (12, 0x404000dd5) => (14, 0xb0825a63) ∷
    []) ∷
    -- fld.s
    group 0x0 (
    row 921 0x2b0002d1 with (22, 0x460e226) with (m1, 0)
    => (49, 0x91d31278a9a637d6ac2e775a5a2a143a049a7a9a01acaf3bffffffff00000000) ∷
    row 922 0x2b3ffc40 with (2, 0x4a4a9fb) with (m1, 0x8000000000000000)
    => (32, 0x84b173beabd5ab85ebb6eecd8c2f6a1d3a591c8559d80806ffffffff00000000) ∷
    row 923 0x2b066a44 with (18, 0xffffffffffffff7e) with (m1, 0x7fffffff) with (at, 0x110)
    => (36, 0x605b4170ef49f28d6517c955430dda0b13f282316c3773c2ffffffff7fffffff) ∷
    row 924 0x2b0f540c with (m1, 0xffffffff80000000) with (at, 0x3cd)
    => (44, 0x4ba5f5ff6c0633945dd8ed75f25ed0972c9403057f467034ffffffff80000000) ∷
    row 925 0x2b1ffeeb with (23, 0x404c1a9c5) with (m1, 0x8000)
    => (43, 0xeb660bd2eeb4d6e66033175aa9ff8f77253fc294b8e70b18ffffffff00008000) ∷
    row 926 0x2b3ffe94 with (20, 0x404914478) with (m1, 1)
    => (52, 0x96c1d6775239c355b81f1c6d4180519d940f78c9455bd8d2ffffffff00000001) ∷
    row 927 0x2b00047d with (3, 0x4991f37) with (m1, 0x7fffffffffffffff)
    => (61, 0xd8107268ee258c4dc9559cfa1aa064457cedb8d4569cb7fdffffffffffffffff) ∷
    row 928 0x2b2000ee with (7, 0x2042e9f5a) with (m1, 0xffffffff)
    => (46, 0xef8256fdb05c962278377aa4a99b9b7ccf27d48987fd994effffffffffffffff) ∷
    row 929 0x2b1fff9e with (28, 0x20451a4e0) with (m1, 0x80)
    => (62, 0xdc2d8c0126a28935b5c7c7b910ed9ac35e90b43a392b266dffffffff00000080) ∷
    row 930 0x2b0000e0 with (7, 0x4025fc7) with (m1, 0x7fff)
    => (32, 0xb8775a8325ed094d687dde26b3faca7cae42446aebf39292ffffffff00007fff) ∷
    row 931 0x2b1a7ad9 with (22, 0xfffffffffffffc2c) with (m1, 0xffffffffffffffff) with (at, 0x2c2)
    => (57, 0xb1283b65edfa22e246e98cfb0c5bcd0e740a2f3c08801be2ffffffffffffffff) ∷
    row 932 0x2b010801 with (m1, 0x80000000) with (at, 0x3a)
    => (33, 0xde91fd822bcb8550800d9bd2dd32988d488a7cff91ec3a26ffffffff80000000) ∷
    row 933 0x2b1ffe7a with (19, 0x4bb7622) with (m1, 0xffffffff7fffffff)
    => (58, 0x63a86d5542f757a0f82d74ddff99e24ae2372b3f4d4d526effffffff7fffffff) ∷
    row 934 0x2b00018c with (12, 0x404f7fbe7) with (m1, 0x7f)
    => (44, 0x835a024797920253d92ecb663eaf09a3cca34abcb6223654ffffffff0000007f) ∷
    row 935 0x2b3ffcf8 with (7, 0x204c21711) with (m1, 1)
    => (56, 0x803b1ffe11353dc70f32ac9d8633af1b6b24f2719325ebaeffffffff00000001) ∷
    row 936 0x2b200235 with (17, 0x40419d79b) with (m1, 0x7fffffffffffffff)
    => (53, 0x127aaff52453832d8af266e7fdc15e15886700e5fc8d7857ffffffffffffffff) ∷
    row 937 0x2b1fff2b with (25, 0x204ff1d8a) with (m1, 0xffffffff)
    => (43, 0x3636660ca4440ca5a54a0e4d6b88655dae96d27a4a5e05a9ffffffffffffffff) ∷
    row 938 0x2b000280 with (20, 0x4047218d9) with (m1, 0x80)
    => (32, 0x57c814e34bdc5fdb4ad921122d7edc332aab355ffc4c3bb8ffffffff00000080) ∷
    row 939 0x2b0cd050 with (2, 0xfffffffffffffd30) with (m1, 0x7fff) with (at, 0x5c)
    => (48, 0x2c6deeb2e2f9c5b0b0dd5b4a8ad038281542d23e84d51736ffffffff00007fff) ∷
    row 940 0x2b0d1002 with (m1, 0xffffffffffffffff) with (at, 0x33c)
    => (34, 0xeb21d92bff295d7cf20519795c5653e65094d37d9a90305bffffffffffffffff) ∷
    row 941 0x2b2850fd with (7, 0x471fe5a)
    => (61, 0xe2843fcb8cfadd3774536fcabcab44d9d6c34924ad80b3baffffffff13bfdbe8) ∷
    row 942 0x2b391421 with (1, 0x470b858)
    => (33, 0xd43640e553995045c61afc61574ca403e5a2e46893f36d7afffffffff671ca3d) ∷
    row 943 0x2b0645cb with (14, 0x204a7bb48)
    => (43, 0x45214cd64413a4e44cfff0f7dd471ff2626e2c12259d14c3ffffffffb4cc90b9) ∷
    row 944 0x2b332c84 with (4, 0x204c1b902)
    => (36, 0x44bd60a8c3be868cd818512d20825a9e955c2b7010bfd8f9ffffffff4ed02f5c) ∷
    row 945 0x2b1f41a4 with (13, 0x4694454)
    => (36, 0x4c37190c1e2602cd3c2aba041af58864c1bec887ce78d8f5ffffffffc47ca627) ∷
    row 946 0x2b13be20 with (17, 0x4f3d043)
    => (32, 0x6e8752789b2613aeedcee6daaae47880af93ef648ae20378ffffffff15d1f519) ∷
    row 947 0x2b15e054 with (2, 0xfffffffffffffe26) with (at, 0x396)
    => (52, 0xe9df09891fe369eda6fa134a35df5dadcac38ad2bb7f2909ffffffff42d01c32) ∷
    row 948 0x2b0ecc0c with (at, 0x3ab)
    => (44, 0x73de0d046a1fbf0079d9d2717f0c6a61efd4ebb914b655a2ffffffff4b771b72) ∷
    row 949 0x2b3107ee with (31, 0x4043a79bf)
    => (46, 0x704fdcc55d033451d6b19d9117ea63bf001706f152787d45ffffffff2fc6f2da) ∷
    row 950 0x2b29d18c with (12, 0x450cf7a)
    => (44, 0xcc230294aadd3141664963a4a8f0c2b2db8e3e2101c87d30ffffffffefbfa269) ∷
    row 951 0x2b09b0b6 with (5, 0x2049f637c)
    => (54, 0x13b7e088ff4f5b918f45d1a0b89a2f53a7f72b3a06d3e82dffffffff8b612a1f) ∷
    row 952 0x2b26b1c9 with (14, 0x47ba599)
    => (41, 0xe3dbe24872fb0d769cb55b4555ac44243128e3bf00d031b3ffffffff02ab89fd) ∷
    row 953 0x2b096cc9 with (6, 0x2043ac8fe)
    => (41, 0x6748aa81cc99725fc0f82f08d223acf0196823f46386b248ffffffff559ec201) ∷
    row 954 0x2b002fa0 with (29, 0x4323f70)
    => (32, 0x764734a3fea7b5061f3edf6e0c33ce53cfc727897b4e9d1ffffffff843ad22d) ∷
    row 955 0x2b1b7529 with (9, 0xfffffffffffffe43) with (at, 0x518)
    => (41, 0x31d2f468a843200a29641ab3efc78c1dfe4ca1cbe2de90e3ffffffff8e7fba81) ∷
    row 956 0x2b164008 with (at, 0x588)
    => (40, 0x40e87e194cbc79bb379dc7562d534385d829d741cad6700cffffffff746d7afb) ∷
    row 957 0x2b2a8d1d with (8, 0x414fc36)
    => (61, 0x58dfb665fbdd0c32c02fb43526b0471ae671fb7a97ea73e4ffffffff3604139d) ∷
    row 958 0x2b07c7ff with (31, 0x20442de93)
    => (63, 0x7ff7714ece105034801ee831818930dec7b4f15edab67852ffffffffd3438466) ∷
    row 959 0x2b2ab587 with (12, 0x20453c23a)
    => (39, 0xb5d35b1b884463e76b58715274b7f28a83ba12fc85972e5affffffff4c2bcd57) ∷
    row 960 0x2b282a50 with (18, 0x2044791f8)
    => (48, 0x4dd9dd440f29e58852cdcd5f003b1c1ac9fcd2362d1f6dbdffffffffa0bcee6e) ∷
    []) ∷
    -- fst.s
    group 0x0 (
    row 961 0x2b400353 with (26, 0x473a32a) with (51, 0) => (m1, 0x80ca456800000000) ∷
    row 962 0x2b7ffe00 with (16, 0x40482ad0a) with (32, 0x8000000000000000)
    => (m1, 0x8c5adfc600000000) ∷
    row 963 0x2b4b0455 with (2, 0xfffffffffffffedb) with (53, 0x7fffffff) with (at, 0x194)
    => (m1, 0x62c7719b7fffffff) ∷
    row 964 0x2b4a1c0a with (42, 0xffffffff80000000) with (at, 0x27f) => (m1, 0x178fc5fd80000000) ∷
    row 965 0x2b5ffd20 with (9, 0x40456c84d) with (32, 0x8000) => (m1, 0x971cc000008000) ∷
    row 966 0x2b7fff39 with (25, 0x40446fa61) with (57, 1) => (m1, 0xc1bfe20f00000001) ∷
    row 967 0x2b40052a with (9, 0x4046f6c80) with (42, 0x7fffffffffffffff)
    => (m1, 0xbd61fdbfffffffff) ∷
    row 968 0x2b600167 with (11, 0x4d02eb0) with (39, 0xffffffff) => (m1, 0x8aeb33fdffffffff) ∷
    row 969 0x2b5fffbb with (29, 0x404be7641) with (59, 0x80) => (m1, 0x9928149b00000080) ∷
    row 970 0x2b400240 with (18, 0x204e51dde) with (32, 0x7fff) => (m1, 0x7240ecb000007fff) ∷
    row 971 0x2b449093 with (4, 0xffffffffffffff60) with (51, 0xffffffffffffffff) with (at, 0x7c)
    => (m1, 0x93e96151ffffffff) ∷
    row 972 0x2b588404 with (36, 0x80000000) with (at, 0x619) => (m1, 0x7f9cfe5480000000) ∷
    row 973 0x2b5fffa8 with (29, 0x203fffa5c) with (40, 0xffffffff7fffffff)
    => (m1, 0xada5e3e47fffffff) ∷
    row 974 0x2b400294 with (20, 0x4b26cd8) with (52, 0x7f) => (m1, 0xabf445d40000007f) ∷
    row 975 0x2b7fff4b with (26, 0x204f274b8) with (43, 1) => (m1, 0xe65d9c5100000001) ∷
    row 976 0x2b60010f with (8, 0x415774e) with (47, 0x7fffffffffffffff) => (m1, 0xf746c32fffffffff)
    ∷
    row 977 0x2b5ffe2f with (17, 0x470a9f3) with (47, 0xffffffff) => (m1, 0xd30be184ffffffff) ∷
    row 978 0x2b400100 with (8, 0x204043ca3) with (32, 0x80) => (m1, 0x6194766600000080) ∷
    row 979 0x2b4674c8 with (6, 0xffffffffffffff2a) with (40, 0x7fff) with (at, 0xbf)
    => (m1, 0x4ff459a800007fff) ∷
    row 980 0x2b582404 with (36, 0xffffffffffffffff) with (at, 0x601) => (m1, 0xeadd5f78ffffffff) ∷
    row 981 0x2b6a2525 with (9, 0x404bb3d26) => (m1, 0xebd807a87a65970c) ∷
    row 982 0x2b5bfd6b with (11, 0x4048530eb) => (m1, 0xb7aea74f19ec24a2) ∷
    row 983 0x2b49364a with (18, 0x204877de5) => (m1, 0xa6b6eb841219b9d1) ∷
    row 984 0x2b527fef with (31, 0x40417613d) => (m1, 0x85285018756c666a) ∷
    row 985 0x2b7157bf with (29, 0x48a41ea) => (m1, 0x8091053a1cfbe46b) ∷
    row 986 0x2b672600 with (16, 0x404e00f8f) => (m1, 0x719d2ebd13bae3d7) ∷
    row 987 0x2b53db9d with (28, 0xfffffffffffffefa) with (at, 0x3e8) => (m1, 0x796654cc70ef9eee) ∷
    row 988 0x2b5c2419 with (at, 0x701) => (m1, 0x7d0d433de509bb76) ∷
    row 989 0x2b786a99 with (20, 0x204ddc785) => (m1, 0x4b9029244ab3d786) ∷
    row 990 0x2b66439c with (28, 0x40414b75d) => (m1, 0xa7788d98569d56d5) ∷
    row 991 0x2b6a153b with (9, 0x483e9c4) => (m1, 0x8896386d09142239) ∷
    row 992 0x2b47df3e with (25, 0x40480b30f) => (m1, 0xf0df0dcffb451cef) ∷
    row 993 0x2b6cc576 with (11, 0x204b5d2a0) => (m1, 0xe4977d912cb3a60a) ∷
    row 994 0x2b6052c0 with (22, 0x204233695) => (m1, 0x5940c3e14cf007d3) ∷
    row 995 0x2b4a2b71 with (27, 0xffffffffffffff1b) with (at, 0x19d) => (m1, 0x5f93f891ef6f468e) ∷
    row 996 0x2b4a9c02 with (at, 0x29f) => (m1, 0x30c324b846871c20) ∷
    row 997 0x2b5c0bb7 with (29, 0x467a528) => (m1, 0xf98ba96dd868efff) ∷
    row 998 0x2b7ad129 with (9, 0x460d92d) => (m1, 0xdd559a81f3dc3e5c) ∷
    row 999 0x2b56b1c2 with (14, 0x204e79b4e) => (m1, 0xb27e9023648606c6) ∷
    row 1000 0x2b60c726 with (25, 0x404a6b9ef) => (m1, 0xa8e34626a4875fbb) ∷
    []) ∷
    -- fld.d
    group 0x0 (
    row 1001 0x2b80023c with (17, 0x404f360a9) with (m1, 0)
    => (60, 0x85ec1e081ac226bc1829fa360b7cb1f0d178c418e5d6c2360000000000000000) ∷
    row 1002 0x2bbffd20 with (9, 0x2042301eb) with (m1, 0x8000000000000000)
    => (32, 0x693c685a5448d3bd02d8e8df993675e43feb03363fa9d28a8000000000000000) ∷
    row 1003 0x2b939bb7 with (29, 0xfffffffffffffda1) with (m1, 0x7fffffff) with (at, 0x27f)
    => (55, 0xfaf1df5c4c419445e2da4bf538ab063238c7060a0081aca1000000007fffffff) ∷
    row 1004 0x2b91581e with (m1, 0xffffffff80000000) with (at, 0x44e)
    => (62, 0xe37781db4c94ee3b43ef9163929a740f865e273c4d043863ffffffff80000000) ∷
    row 1005 0x2b9ffe87 with (20, 0x204ae38a6) with (m1, 0x8000)
    => (39, 0x2fbc86f609776ee1a100464fee5ab680b230d7ffbcc4be320000000000008000) ∷
    row 1006 0x2bbffdad with (13, 0x204bf021b) with (m1, 1)
    => (45, 0xa09ed0c572210a04affc90c0638dce010959ebf15868cf9d0000000000000001) ∷
    row 1007 0x2b8007bb with (29, 0x4045d60f0) with (m1, 0x7fffffffffffffff)
    => (59, 0x19f637fcd7ddccac3d69742a87fde28fb3bbb2fca83094a7fffffffffffffff) ∷
    row 1008 0x2ba00091 with (4, 0x4340fd6) with (m1, 0xffffffff)
    => (49, 0x1e6490d0d711e3d11f3bd7a39488a5e43f3a3a35d1743de500000000ffffffff) ∷
    row 1009 0x2b9ffc54 with (2, 0x40442eec8) with (m1, 0x80)
    => (52, 0x6f3222d9184cbebe97fef1d8e4c8dbcdcf7c5c49eb49607d0000000000000080) ∷
    row 1010 0x2b800020 with (1, 0x2048a2dc6) with (m1, 0x7fff)
    => (32, 0x37d2d0e1fa3f47d8cb4e73143cf4b3aa08d205b6c0288f180000000000007fff) ∷
    row 1011 0x2b9adbea with (31, 0xfffffffffffffa33) with (m1, 0xffffffffffffffff) with (at, 0xe1)
    => (42, 0xcae0cbb31da7aec21518fc7a440df870584da565f0e80b9cffffffffffffffff) ∷
    row 1012 0x2b8f2800 with (m1, 0x80000000) with (at, 0x3c2)
    => (32, 0xc02a6f77965c4f731c6f533902d24831145fbdc14c01cb040000000080000000) ∷
    row 1013 0x2b9ffea2 with (21, 0x4b17b12) with (m1, 0xffffffff7fffffff)
    => (34, 0x7d68f623e437b8f436d6775f39c0af532060667588b010b1ffffffff7fffffff) ∷
    row 1014 0x2b800084 with (4, 0x2042f2f99) with (m1, 0x7f)
    => (36, 0xf5dee8e4799d62d1a432cfc7a10ca676dd0906d290e0268e000000000000007f) ∷
    row 1015 0x2bbfff46 with (26, 0x43a7985) with (m1, 1)
    => (38, 0x2e4e8dbadbcd5cc9f33b99c9669e53604a599ed864920c9c0000000000000001) ∷
    row 1016 0x2ba000e2 with (7, 0x47e137c) with (m1, 0x7fffffffffffffff)
    => (34, 0x160b12e1a8cacbafe82118205c470589942bd7cbe9fc7537fffffffffffffff) ∷
    row 1017 0x2b9ffcb2 with (5, 0x4f9dd82) with (m1, 0xffffffff)
    => (50, 0xc11842201b56952b079fa314285293bb3abf9b75042478f900000000ffffffff) ∷
    row 1018 0x2b8002c0 with (22, 0x4ae0793) with (m1, 0x80)
    => (32, 0x71f40d054c0db4baf95850db326ba2c6da38d146bee46a410000000000000080) ∷
    row 1019 0x2b907e5c with (18, 0xfffffffffffffe91) with (m1, 0x7fff) with (at, 0x2a8)
    => (60, 0x2020b4557d312096b026c2f6f04d571c4c733a3aceface350000000000007fff) ∷
    row 1020 0x2b8a7c1d with (m1, 0xffffffffffffffff) with (at, 0x297)
    => (61, 0x84ea2450a8d85ca75313c62229eaedbaacaa81794d6f5866ffffffffffffffff) ∷
    row 1021 0x2b87fa37 with (17, 0x4041c1c19)
    => (55, 0x9b28e92e30ff413861c5af7e30285d5346256991e2de93e3ddaf7a6457867b28) ∷
    row 1022 0x2b911508 with (8, 0x4045c06c3)
    => (40, 0xa03a14d46dcfd5e065e0c8941983e61ed2a18d49119dfb67a6f4fa9ddefbf5c2) ∷
    row 1023 0x2babd6c5 with (22, 0x4047eefbc)
    => (37, 0xf4cba1e560e9d8405a5f4f65752f6c63a7c1ce5c2a5ddbcf16dd8f64421a4884) ∷
    row 1024 0x2bb4236e with (27, 0x4042f6ab4)
    => (46, 0x3888bfd99620dbedaca896ae4db9f1c5df381654a28b1274f2bdd48b80e1736d) ∷
    row 1025 0x2ba014cb with (6, 0x2041834d0)
    => (43, 0xb77a6ada9ccbc4ea30bab1963e933085d0bbdb4c46b0804f6f06da3f9b51767d) ∷
    row 1026 0x2b916900 with (8, 0x48e8af6)
    => (32, 0x17a01cc449b41a638cf68234799b433ab41f65e63bdd64035d81e454916a51b5) ∷
    row 1027 0x2b92abb3 with (29, 0xfffffffffffffb65) with (at, 7)
    => (51, 0xafa417d1e567abf98e7fd41c7477579fccf2cbe51532b375e62b5af6632c0514) ∷
    row 1028 0x2b87ac0e with (at, 0x1e3)
    => (46, 0xef683f59e4a5871be348940654b36fdcba72c2b82e254c76e74129f91096909a) ∷
    row 1029 0x2bbba4fd with (7, 0x4436826)
    => (61, 0x45a510d4bc6dd0720ad65ef352646a99d1b97e7c1f97bf64b332f07299a9f447) ∷
    row 1030 0x2bbf1042 with (2, 0x49ae9fa)
    => (34, 0xd211bf5c365b46c55e9e77cc1c9db67bf685ed7733b815d68ffba578fe66301c) ∷
    row 1031 0x2b87a1d6 with (14, 0x4048007e7)
    => (54, 0xdd6f4b9c12184111b223b3020a2cb83e7b0b0475b6dcd8c36e8830e03ecb4418) ∷
    row 1032 0x2bac4f50 with (26, 0x4482186)
    => (48, 0xc6f3d01667ed49f2b5f89dbd67c6a673d9174eef7c44c2a457b156d45ad9303b) ∷
    row 1033 0x2b82fb23 with (25, 0x2044876b1)
    => (35, 0x79bbe836550c2debc3740f8a793749f76b0c31d4e2b46d6948d8a729528ff485) ∷
    row 1034 0x2b9f2940 with (10, 0x4d667de)
    => (32, 0xafd4e7381f4d381c6a1b75efd6b2de459685c39537137c5f3e623e0b25ef90f7) ∷
    row 1035 0x2b96f2ef with (23, 0xfffffffffffffbb1) with (at, 0x165)
    => (47, 0xda8d33bd86135d264eb2d03e9eff3febfe0cfe0e1306bc864224534dd4f80590) ∷
    row 1036 0x2b90e00f with (at, 0x430)
    => (47, 0xb3a67192797dcecc4af04d762df3e20b657ac2fe66e8568610c260075fa95250) ∷
    row 1037 0x2b8141c0 with (14, 0x4d20851)
    => (32, 0xe7f5330a51260ab49c9f59cb5f1166da1b9d188cd3d387655a6b354dc6037738) ∷
    row 1038 0x2bb441ce with (14, 0x4ebcea9)
    => (46, 0x8971a0cf5f9e532aa482146ec26cf1d30fd13599fd39b6f53ba406f508067447) ∷
    row 1039 0x2bbf4fd4 with (30, 0x43dd70b)
    => (52, 0xbdeccf40d31d2af7fe2852c734ab8d406884841b7787d2c591ad4d2925b2497d) ∷
    row 1040 0x2bbf8deb with (15, 0x4c82a2d)
    => (43, 0x6071ec76349c370fa8dd06a184925b1f6c989435cd9f337d8580e3be1f06f6da) ∷
    []) ∷
    -- fst.d
    group 0x0 (
    row 1041 0x2bc00061 with (3, 0x204e01aa4) with (33, 0) => (m1, 0) ∷
    row 1042 0x2bfffd40 with (10, 0x404dafdf1) with (32, 0x8000000000000000)
    => (m1, 0x8000000000000000) ∷
    row 1043 0x2bd7cd60 with (11, 0xfffffffffffffd2b) with (32, 0x7fffffff) with (at, 0x316)
    => (m1, 0x7fffffff) ∷
    row 1044 0x2bdab814 with (52, 0xffffffff80000000) with (at, 0x6a6) => (m1, 0xffffffff80000000) ∷
    row 1045 0x2bdffde3 with (15, 0x20472a57a) with (35, 0x8000) => (m1, 0x8000) ∷
    row 1046 0x2bfffe73 with (19, 0x204a40650) with (51, 1) => (m1, 1) ∷
    row 1047 0x2bc0074e with (26, 0x40462fc86) with (46, 0x7fffffffffffffff)
    => (m1, 0x7fffffffffffffff) ∷
    row 1048 0x2be00088 with (4, 0x204af9822) with (40, 0xffffffff) => (m1, 0xffffffff) ∷
    row 1049 0x2bdfff41 with (26, 0x20489b920) with (33, 0x80) => (m1, 0x80) ∷
    row 1050 0x2bc00140 with (10, 0x4049c3a29) with (32, 0x7fff) => (m1, 0x7fff) ∷
    row 1051 0x2bdd7bf8 with (31, 0xffffffffffffff89) with (56, 0xffffffffffffffff) with (at, 0x6df)
    => (m1, 0xffffffffffffffff) ∷
    row 1052 0x2bc21c1b with (59, 0x80000000) with (at, 0x7f) => (m1, 0x80000000) ∷
    row 1053 0x2bdffe09 with (16, 0x4254d98) with (41, 0xffffffff7fffffff)
    => (m1, 0xffffffff7fffffff) ∷
    row 1054 0x2bc00129 with (9, 0x40418eed5) with (41, 0x7f) => (m1, 0x7f) ∷
    row 1055 0x2bfffe7a with (19, 0x40444d022) with (58, 1) => (m1, 1) ∷
    row 1056 0x2be0014a with (10, 0x453ac25) with (42, 0x7fffffffffffffff)
    => (m1, 0x7fffffffffffffff) ∷
    row 1057 0x2bdfffc5 with (30, 0x4049ab836) with (37, 0xffffffff) => (m1, 0xffffffff) ∷
    row 1058 0x2bc00300 with (24, 0x2041a2453) with (32, 0x80) => (m1, 0x80) ∷
    row 1059 0x2bc769c7 with (14, 0xfffffffffffffef1) with (39, 0x7fff) with (at, 0xc3)
    => (m1, 0x7fff) ∷
    row 1060 0x2bd49c07 with (39, 0xffffffffffffffff) with (at, 0x51f) => (m1, 0xffffffffffffffff) ∷
    row 1061 0x2bf9625e with (18, 0x40494ad4d) => (m1, 0x722bc3f509f57b4b) ∷
    row 1062 0x2bff44a5 with (5, 0x44a857c) => (m1, 0x97f6acf25e30ff89) ∷
    row 1063 0x2bcc4cca with (6, 0x20438a3ee) => (m1, 0x91d2805ed7032c96) ∷
    row 1064 0x2bc81d4e with (10, 0x204b46411) => (m1, 0x74ee3d4e57923a14) ∷
    row 1065 0x2bda687b with (3, 0x413114d) => (m1, 0x422e0f7a5b54cb75) ∷
    row 1066 0x2bf153c0 with (30, 0x20454c019) => (m1, 0xf8e9b85b4c3cc1c6) ∷
    row 1067 0x2bc8d189 with (12, 0xfffffffffffffe96) with (at, 0xc2) => (m1, 0x8bf4f9d0e563161f) ∷
    row 1068 0x2bcc7c02 with (at, 0x317) => (m1, 0x41e9dd40668c6182) ∷
    row 1069 0x2be51a77 with (19, 0x404160bb3) => (m1, 0x85764799d1c8b252) ∷
    row 1070 0x2bde8273 with (19, 0x20438c214) => (m1, 0x199e357b87bc8fb0) ∷
    row 1071 0x2bc6b00c with (at, 0x1a4) => (m1, 0xea01cbd2733f69f9) ∷
    row 1072 0x2bc84014 with (at, 0x208) => (m1, 0x32ac7f2d2818957b) ∷
    row 1073 0x2bcb6c5e with (2, 0x49d7003) => (m1, 0x41625678d9682fa3) ∷
    row 1074 0x2bc8b040 with (2, 0x204f6aaf6) => (m1, 0x74d9b88512dfc71d) ∷
    row 1075 0x2bd10777 with (27, 0xfffffffffffffd86) with (at, 0x1bf) => (m1, 0x7791f69b94245172) ∷
    row 1076 0x2bc7400b with (at, 0x1c8) => (m1, 0x1476fa82f0bcd96d) ∷
    row 1077 0x2bca96c5 with (22, 0x4feb444) => (m1, 0xb4c90bb9c51cf2c9) ∷
    row 1078 0x2bc789ce with (14, 0x204e3ba2a) => (m1, 0x6d4fec6d72cad468) ∷
    row 1079 0x2be474cb with (6, 0x204566575) => (m1, 0x1e1becb8856899e) ∷
    row 1080 0x2bede122 with (9, 0x204014dad) => (m1, 0x5b13760c33cb41bd) ∷
    []) ∷
    -- preld
    group 0x0 (
    row 1081 0x2ac003ef ∷
    row 1082 0x2affffa0 ∷
    row 1083 0x2ac004ca ∷
    row 1084 0x2ae0001b ∷
    row 1085 0x2adffebb ∷
    row 1086 0x2afffd6b ∷
    row 1087 0x2ac006b1 ∷
    row 1088 0x2ae001ff ∷
    row 1089 0x2adffdc9 ∷
    row 1090 0x2ac00260 ∷
    row 1091 0x2ac00757 ∷
    row 1092 0x2ae0000c ∷
    row 1093 0x2adffdf3 ∷
    row 1094 0x2ac00252 ∷
    row 1095 0x2afffc24 ∷
    row 1096 0x2ae0019e ∷
    row 1097 0x2adfff7f ∷
    row 1098 0x2ac00060 ∷
    row 1099 0x2afffd53 ∷
    row 1100 0x2ac0041b ∷
    row 1101 0x2ac57fc1 ∷
    row 1102 0x2ad5d5ef ∷
    row 1103 0x2ad5aa92 ∷
    row 1104 0x2ae7ca46 ∷
    row 1105 0x2acee836 ∷
    row 1106 0x2ac428a0 ∷
    row 1107 0x2ad89b6a ∷
    row 1108 0x2ad96016 ∷
    row 1109 0x2adad8ca ∷
    row 1110 0x2af17821 ∷
    row 1111 0x2adfe301 ∷
    row 1112 0x2afb823b ∷
    row 1113 0x2ad79f58 ∷
    row 1114 0x2ad710c0 ∷
    row 1115 0x2ac1f75c ∷
    row 1116 0x2acad41d ∷
    row 1117 0x2adc045e ∷
    row 1118 0x2ad280c6 ∷
    row 1119 0x2ac9b988 ∷
    row 1120 0x2adf0c1a ∷
    []) ∷
    -- vld
    group 0x0 (
    row 1121 0x2c0000c4 with (6, 0x20400840c) with (m1, 0)
    => (36, 0x211a57d29e94184efaea120797618bd03cbeb2ccdbd0ea2b0000000000000000) ∷
    row 1122 0x2c3fff20 with (25, 0x4e740c6) with (m1, 0x8000000000000000)
    => (32, 0xa85dcd89f41b130f1f0d024c0ef3b62d30d6ae07a8167cf58000000000000000) ∷
    row 1123 0x2c18e24a with (18, 0xffffffffffffffef) with (m1, 0x7fffffff) with (at, 0x61f)
    => (42, 0xe12589e22558965ac53e799eac5f0e6be6b0b4cd5004e7e6000000007fffffff) ∷
    row 1124 0x2c08a411 with (m1, 0xffffffff80000000) with (at, 0x221)
    => (49, 0x5a25138ef3a0b2d602850e8021bb3623e72920f5d39c2afeffffffff80000000) ∷
    row 1125 0x2c1ffe6f with (19, 0x204427494) with (m1, 0x8000)
    => (47, 0x96d02efe13bcd630e3387f7e7828700eaf9deca932dc463e0000000000008000) ∷
    row 1126 0x2c3ffdef with (15, 0x4b5042c) with (m1, 1)
    => (47, 0xcc92770674b894b0f6f685b1c1a5f8da42eeafd36dc539a50000000000000001) ∷
    row 1127 0x2c00068d with (20, 0x4040a7e79) with (m1, 0x7fffffffffffffff)
    => (45, 0x69399ea8ddbe8e89e8287516971cc6fb97865a60845705337fffffffffffffff) ∷
    row 1128 0x2c2001da with (14, 0x442f382) with (m1, 0xffffffff)
    => (58, 0x927d41738aae90374f4633954d8aeedd3d71e2787691a8e800000000ffffffff) ∷
    row 1129 0x2c1ffd53 with (10, 0x45e4342) with (m1, 0x80)
    => (51, 0xb125f5b96c526bf2e3f91e34e23da4149e69fdf3447524c50000000000000080) ∷
    row 1130 0x2c0003c0 with (30, 0x404074862) with (m1, 0x7fff)
    => (32, 0x4df19919484d98e5f5b7e643e029980c56f04af8ee0178c90000000000007fff) ∷
    row 1131 0x2c1b9afa with (23, 0xfffffffffffffdcc) with (m1, 0xffffffffffffffff) with (at, 0x4aa)
    => (58, 0x4e37a36449120cb6f1c34fcdfa25fc7fc448d7617336a4f4ffffffffffffffff) ∷
    row 1132 0x2c063819 with (m1, 0x80000000) with (at, 0x186)
    => (57, 0x4a13566cfa6bff53ef360db44d92a3c48f69e954d414a9460000000080000000) ∷
    row 1133 0x2c1ffe26 with (17, 0x4a93d6c) with (m1, 0xffffffff7fffffff)
    => (38, 0x805ce9d262d0b7be039ae363d21e5f3b2566f2bf109b85c0ffffffff7fffffff) ∷
    row 1134 0x2c000021 with (1, 0x43362c1) with (m1, 0x7f)
    => (33, 0xf36142d5d122fd11d37132f433d9d8a1e6debd8c28cb3a61000000000000007f) ∷
    row 1135 0x2c3ffcde with (6, 0x404a072cf) with (m1, 1)
    => (62, 0x279119e56269f9278a214f1bb9f83db88f768be41ca3c72a0000000000000001) ∷
    row 1136 0x2c2000cf with (6, 0x4049b283e) with (m1, 0x7fffffffffffffff)
    => (47, 0x10706055b478813984b939fb61c7d5e75d4ec79eec252c197fffffffffffffff) ∷
    row 1137 0x2c1fff66 with (27, 0x20478b867) with (m1, 0xffffffff)
    => (38, 0x1eb39abcc932dd7e3a0848727d09a8618815ae4974f693000000000ffffffff) ∷
    row 1138 0x2c0001c0 with (14, 0x2048ea89b) with (m1, 0x80)
    => (32, 0x5f1038444858178331f71dce03182b43f2ba078d1e227e6e0000000000000080) ∷
    row 1139 0x2c115575 with (11, 0xfffffffffffffd63) with (m1, 0x7fff) with (at, 0x1b0)
    => (53, 0x33f51bfa53fe1cdbd0a8de000b42ce15c0875fc0809e6bd30000000000007fff) ∷
    row 1140 0x2c132406 with (m1, 0xffffffffffffffff) with (at, 0x4c1)
    => (38, 0xfb9b83d97162d510f9caa5a1c282545a5930af6abec33160ffffffffffffffff) ∷
    row 1141 0x2c271cfc with (7, 0x4042217c1)
    => (60, 0xdbdc770ba1f1abf8735125c89937b6d387889a77d890cf14aa5afbc447c49adf) ∷
    row 1142 0x2c3a27de with (30, 0x404c3c613)
    => (62, 0xb8b59560f9671ec781b424ba7a897f2c32ccaf0fce0744ef6bed1db4c65f67e2) ∷
    row 1143 0x2c3dd947 with (10, 0x4f3159d)
    => (39, 0x822e1449aa0e358a86eb462e811546346d850b0a9f2692f25e76a43220a30d0c) ∷
    row 1144 0x2c3f6269 with (19, 0x4055869)
    => (41, 0xf2ff32bab0ce2cf5902d4bcdcb3068752b63e4904beeb91b32a38b10568f8a5e) ∷
    row 1145 0x2c3ba667 with (19, 0x2044fe493)
    => (39, 0xd883d0a71ec7cad1047aae5975ff871cb41eb58cd45fb76c318d827b6824dfd6) ∷
    row 1146 0x2c0fc680 with (20, 0x2047d5d7e)
    => (32, 0xdbb9ab0af43a8ee6d3caa8ea77bf6fd042f64fec38798de518552e4755630d76) ∷
    row 1147 0x2c17cd6c with (11, 0xffffffffffffffb9) with (at, 0x5a4)
    => (44, 0xf55209692d1e159d329c04b6982865b7de4be5d6783c3c84c9f8d18a1e4a133e) ∷
    row 1148 0x2c13b41a with (at, 0x4e5)
    => (58, 0xe7b0b2dfd9fa05383a600b976eb7af6a7983f12393a7c34b1d020759c2d9f12d) ∷
    row 1149 0x2c3c60e3 with (7, 0x204023729)
    => (35, 0x51c167181efa1c0ec1df66e71d745e6e27744bfb8abc2239e1406f8a4312a742) ∷
    row 1150 0x2c116800 with (at, 0x452)
    => (32, 0x5d1a2fad0e51d04f2edea1cebe1ea5d7cf0cc8365d79594e40aa16479ef43580) ∷
    row 1151 0x2c190059 with (2, 0x204ad09b2)
    => (57, 0xe5d54956be6dcf2d5569efce6b9ad3688f97e7fc0bdf688b17834365d67e9be4) ∷
    row 1152 0x2c02b0ca with (6, 0x42c3d88)
    => (42, 0x5f411c13d51e52bcf79c841fae79a38e1afeff3895ee4fefb93867fae9b1da70) ∷
    row 1153 0x2c0cdfd1 with (30, 0x48e5bf6)
    => (49, 0x71fa09f02121aa4e6ed27c3644e406d016b6b9d7fba60f7a6cc14d1cd88df123) ∷
    row 1154 0x2c3ecde0 with (15, 0x4047e1dd5)
    => (32, 0x4fe10ceec33c97406295aa1e77fa5ef4b4b896023d06a72d2111369fa312dffd) ∷
    row 1155 0x2c0d4f31 with (25, 0xfffffffffffffec2) with (at, 0x20d)
    => (49, 0x6069fe5b56469c89be4d6fd3fa21a654bcd0c18f5a101706e0fa8caf4940a6ff) ∷
    row 1156 0x2c027407 with (at, 0x95)
    => (39, 0xf46221c6d1a4d4cce953667af6587d996d6d62a752c25f07a7e53b1fcb174628) ∷
    row 1157 0x2c3bad96 with (12, 0x449b4aa)
    => (54, 0xaecc8cce691231a7228412e35d4c08f581e5ff22271d7f30742f021d2896bd78) ∷
    row 1158 0x2c03e084 with (4, 0x41a912d)
    => (36, 0x70c0e38d297d047809640d4dc8a800d451d6527d721777f4db4757b61bf0cef) ∷
    row 1159 0x2c11f23c with (17, 0x4ce5ef1)
    => (60, 0x4471bb2c98b78ef30aa0cc189fdeec1d330c2a462ce47f6f215e0507690348e) ∷
    row 1160 0x2c019ce4 with (7, 0x204652705)
    => (36, 0x3146d7ee9c4c4974c4a6d0a93ea56d243bc89d83ca23f094127ee5b2670a3454) ∷
    []) ∷
    -- vst
    group 0x0 (
    row 1161 0x2c400178 with (11, 0x2048988ce) => (m1, 0x6ce073b4eb38443a)
    => (m2, 0x833b72b974f5c0cf) ∷
    row 1162 0x2c7fff20 with (25, 0x20490dce9) => (m1, 0xb1419ee274830471)
    => (m2, 0x40ce6ebffaed43df) ∷
    row 1163 0x2c57ee73 with (19, 0xfffffffffffffc14) with (at, 0x207) => (m1, 0x4029bb4aa73b9eea)
    => (m2, 0x65a88755920d580c) ∷
    row 1164 0x2c57040a with (at, 0x5b9) => (m1, 0x226456a49ce90449) => (m2, 0xb52413eec29a0f15) ∷
    row 1165 0x2c5ffecb with (22, 0x404a32c2f) => (m1, 0x68f6670a962f0cf4)
    => (m2, 0x917141e365433862) ∷
    row 1166 0x2c7ffed6 with (22, 0x4048ba87d) => (m1, 0x125785388c9f34b4)
    => (m2, 0x747cd9159f8b43c7) ∷
    row 1167 0x2c40053a with (9, 0x20401ba2c) => (m1, 0x26ff8b62187d0177)
    => (m2, 0xef81a1a3c1418ad7) ∷
    row 1168 0x2c600028 with (1, 0x4b01beb) => (m1, 0xedce8da0b8929c41) => (m2, 0x4f0d04992bcff4f6)
    ∷
    row 1169 0x2c5de81c with (at, 0x772) => (m1, 0x2c39ccd92e70a76e) => (m2, 0x4be027ca45bd7015) ∷
    row 1170 0x2c400040 with (2, 0x204b59f8d) => (m1, 0x861eb1554b437e9d)
    => (m2, 0xb3b1267658326473) ∷
    row 1171 0x2c5003a5 with (29, 0xfffffffffffffc3e) with (at, 0x36) => (m1, 0x12b908ea0fa6fe6c)
    => (m2, 0x375098d68c07f669) ∷
    row 1172 0x2c478c18 with (at, 0x1db) => (m1, 0x25375bdd4c3c01ad) => (m2, 0xe2f139b8e9f6ca5a) ∷
    row 1173 0x2c5ffe85 with (20, 0x204640564) => (m1, 0xa95e7f90d135c882)
    => (m2, 0xdb3a906e75706dd7) ∷
    row 1174 0x2c400339 with (25, 0x4b96cc5) => (m1, 0x18af0e68aa6033d) => (m2, 0xba5ef909b4377da3)
    ∷
    row 1175 0x2c7fff02 with (24, 0x4049c6989) => (m1, 0xb671ab86d177f645)
    => (m2, 0xb2719244a8d3f0c4) ∷
    row 1176 0x2c600342 with (26, 0x404b7b659) => (m1, 0xfca077d7ca89183b)
    => (m2, 0x76c9251209b5994a) ∷
    row 1177 0x2c5fffb6 with (29, 0x40b3339) => (m1, 0x7f7e30e5a307ed57) => (m2, 0xa99584f147b56e9b)
    ∷
    row 1178 0x2c400100 with (8, 0x4971023) => (m1, 0x37ba2ff8e35bc286) => (m2, 0x2f13a73c33b4a3a1)
    ∷
    row 1179 0x2c55679b with (28, 0xfffffffffffffe3b) with (at, 0x38c) => (m1, 0x9e805d14e71dcb6b)
    => (m2, 0x930fbde85929527) ∷
    row 1180 0x2c4c3819 with (at, 0x306) => (m1, 0x45727c9c855e0ca9) => (m2, 0xf548b5a9b0aa3ce0) ∷
    row 1181 0x2c77f5fa with (15, 0x2048c4136) => (m1, 0x28e72407b7f31b9a)
    => (m2, 0x266e59c589837505) ∷
    row 1182 0x2c5fadad with (13, 0x204a3d712) => (m1, 0xd9fdcf6dfbd2857d)
    => (m2, 0x3d700bf5a2f4fa56) ∷
    row 1183 0x2c4af36c with (27, 0x2049e6ec3) => (m1, 0x137014faa5fac376)
    => (m2, 0x9f1b70c5f020cd2f) ∷
    row 1184 0x2c78bac7 with (22, 0x47bf88b) => (m1, 0x9bc784c99e32c91c) => (m2, 0xdf11f6f84438823c)
    ∷
    row 1185 0x2c57b947 with (10, 0x204e71367) => (m1, 0xe9065731e6435e4c)
    => (m2, 0xbb682c0788109fd6) ∷
    row 1186 0x2c6bd780 with (28, 0x43533b4) => (m1, 0xc6141acd3ccbd02b) => (m2, 0xb2f5f1118d740168)
    ∷
    row 1187 0x2c527738 with (25, 0xfffffffffffffe55) with (at, 0x2ea) => (m1, 0x4a420fe774e438dd)
    => (m2, 0x64ce7324d56be20e) ∷
    row 1188 0x2c53ac1f with (at, 0x4e3) => (m1, 0xe858a78ffe301006) => (m2, 0xd621a8ff22e65e95) ∷
    row 1189 0x2c4f8c80 with (4, 0x204711b10) => (m1, 0x465eeac1702e774c)
    => (m2, 0x549bbe978da78677) ∷
    row 1190 0x2c68b2b5 with (21, 0x404a05a4f) => (m1, 0x532fb336302b095a)
    => (m2, 0xeb655e1be518f37b) ∷
    row 1191 0x2c5f59ec with (15, 0x404b274e5) => (m1, 0xb28c210fc163b2e0)
    => (m2, 0x8ada57f29003b9c4) ∷
    row 1192 0x2c4fde94 with (20, 0x404a793bc) => (m1, 0x7d0b079cbc159d76)
    => (m2, 0x16e7c3fff5b6ebbc) ∷
    row 1193 0x2c7e03d5 with (30, 0x204d4fb38) => (m1, 0xcc5382e607cc78b9)
    => (m2, 0x704f7f1eb8383270) ∷
    row 1194 0x2c5137c0 with (30, 0x4048ff6d2) => (m1, 0x312c71d25793a78d)
    => (m2, 0x3f5803f665707dca) ∷
    row 1195 0x2c4f776c with (27, 0xfffffffffffffe9f) with (at, 0x274) => (m1, 0x34e18fac9799163b)
    => (m2, 0xa3e9b6eeaf4c1b89) ∷
    row 1196 0x2c41481c with (at, 0x4a) => (m1, 0x9ab8f99624ff3708) => (m2, 0x38db3adaa0476304) ∷
    row 1197 0x2c714bad with (29, 0x20412b052) => (m1, 0xb7b9b61b7bee072b)
    => (m2, 0x86d6db2b8257dc30) ∷
    row 1198 0x2c7200c6 with (6, 0x204042615) => (m1, 0x6912d0f244b4cfe) => (m2, 0x97891c978892ae2a)
    ∷
    row 1199 0x2c6396a1 with (21, 0x4d89259) => (m1, 0x8a41fcb1ded60d71) => (m2, 0x2477a02aece43435)
    ∷
    row 1200 0x2c4c6cb6 with (5, 0x43a8e2e) => (m1, 0x92dec6496945c3e3) => (m2, 0x8ab5cb2e7d1c74ee)
    ∷
    []) ∷
    -- xvld
    group 0x0 (
    row 1201 0x2c800399 with (28, 0x4042a34ae) with (m1, 0)
    => (57, 0xc8fc91cee1799081d00a53ec1dbaedf9000000000000000031bea3429ca23be5) ∷
    row 1202 0x2cbffca0 with (5, 0x4fccad5) with (m1, 0x8000000000000000)
    => (32, 0x70403abc95e5868c5e2f04b8ec40d098000000000000000973994a71ff40944) ∷
    row 1203 0x2c8497f9 with (31, 0xffffffffffffff63) with (m1, 0x7fffffff) with (at, 0x88)
    => (57, 0xa16dbe3d8cebf877769ab835db760440000000007fffffff748d77427eeeaecb) ∷
    row 1204 0x2c8b980a with (m1, 0xffffffff80000000) with (at, 0x2e6)
    => (42, 0x6b370462c2270aef22e779703d0d39effffffff80000000e668d994b9922c78) ∷
    row 1205 0x2c9ffdaf with (13, 0x41b8ae9) with (m1, 0x8000)
    => (47, 0x98da2087a701c10b3c26525b07d47b230000000000008000d657811dcfde824d) ∷
    row 1206 0x2cbffe94 with (20, 0x20479f3ed) with (m1, 1)
    => (52, 0x10ba977dfd89e990ca54d6a9e780facf00000000000000019122201dc1d3b04a) ∷
    row 1207 0x2c80054f with (10, 0x404bb47a7) with (m1, 0x7fffffffffffffff)
    => (47, 0xaf41b8ad2fbaea3c20ad225ba2d652a37fffffffffffffff571cc0d48f71b66d) ∷
    row 1208 0x2ca001f5 with (15, 0x204df961c) with (m1, 0xffffffff)
    => (53, 0x39bcf4913d94c30fc1766b9839d4829e00000000ffffffff248224c238b894b8) ∷
    row 1209 0x2c9ffc76 with (3, 0x4e6bf49) with (m1, 0x80)
    => (54, 0xe4a486ae27177409242f2837ac7b8ac10000000000000080f6dd3666bda84b2a) ∷
    row 1210 0x2c800360 with (27, 0x2047b9dd6) with (m1, 0x7fff)
    => (32, 0x81ba877fec42fd2bd7933661facb6b0a0000000000007fffd6dd5f421e40d9c3) ∷
    row 1211 0x2c8bf486 with (4, 0xfffffffffffffd31) with (m1, 0xffffffffffffffff) with (at, 0x2e)
    => (38, 0xe9ac7fc88d175e7455d33c0324c4237bffffffffffffffffb598e1d45a824084) ∷
    row 1212 0x2c942c16 with (m1, 0x80000000) with (at, 0x50b)
    => (54, 0xe8b3504a099497e50cab37072a65b4130000000080000000a833cf9d726c7f6c) ∷
    row 1213 0x2c9ffe2d with (17, 0x204e11f25) with (m1, 0xffffffff7fffffff)
    => (45, 0x63400d8061baa97c9d8601960bb01cd3ffffffff7fffffff65aab4dd65ff967b) ∷
    row 1214 0x2c80039c with (28, 0x404571de6) with (m1, 0x7f)
    => (60, 0x6ea74eef9589933b60be6d87c8a35dba000000000000007f988575d4353b85b1) ∷
    row 1215 0x2cbffffe with (31, 0x4b00762) with (m1, 1)
    => (62, 0xfbced113a50155210433fd04613f76c8000000000000000168972001e0204d0f) ∷
    row 1216 0x2ca00139 with (9, 0x4ebeb93) with (m1, 0x7fffffffffffffff)
    => (57, 0x139683709021ef2fd3ccd9e3d58467fd7fffffffffffffffa7d251e666adec94) ∷
    row 1217 0x2c9fff9c with (28, 0x204b55528) with (m1, 0xffffffff)
    => (60, 0xb358ca8256eb616389dd2e4e2572315900000000ffffffff8a7ec101c8e46440) ∷
    row 1218 0x2c800040 with (2, 0x404b71ec8) with (m1, 0x80)
    => (32, 0x1df7090af95dabbf0ac97a2f5108d2dd00000000000000803807279406c3b414) ∷
    row 1219 0x2c9bb7e2 with (31, 0xfffffffffffffc1e) with (m1, 0x7fff) with (at, 0x30b)
    => (34, 0x89ddf9cc7778ce422e81957358484c880000000000007fffcb6197dd204bdc0f) ∷
    row 1220 0x2c8a1c12 with (m1, 0xffffffffffffffff) with (at, 0x287)
    => (50, 0x716fd42d13cc8edc208a6423b309e5bffffffffffffffff8b84c35d157cdc31) ∷
    row 1221 0x2c95a9b9 with (13, 0x4040e0e91)
    => (57, 0x7f5e5ef206a99bbff2213273f9c1c85480c19eff4450d0932b3fa493e656b47a) ∷
    row 1222 0x2cbedfde with (30, 0x4464b70)
    => (62, 0xf32275617bf46b89843083093fbca753d31821467af29dbfdfd950192d964ea) ∷
    row 1223 0x2c969754 with (26, 0x204b6c4ba)
    => (52, 0x93d9f9f3047dc9d8d4bc055009dea4bd317ba9b666b65b4baa18e7261b04ed82) ∷
    row 1224 0x2c9f8ba0 with (29, 0x4b4df18)
    => (32, 0x36488744cce525208d789ffa5b6a572d008651b9416664e38f719c817ed94e41) ∷
    row 1225 0x2cacdfeb with (31, 0x20495fb15)
    => (43, 0xa3930c0d70f5588f1111321b889ee1c39a6cf132f7bf46a13fa64953be568728) ∷
    row 1226 0x2c91c5e0 with (15, 0x4049e90)
    => (32, 0x7c5a1d0ef0ae6425a1a96d9f917c4481e2d6573989c100873fe0d9dcd97c9836) ∷
    row 1227 0x2c9c11f7 with (15, 0xfffffffffffffbfd) with (at, 0x301)
    => (55, 0xfc3f66c54c1047e237dcc4ae76027f678f57bba0f76b929402b04b9cd04b816a) ∷
    row 1228 0x2c88b00c with (at, 0x22c)
    => (44, 0xe166e8b4831b03c7d4d5712036319273e421929540befcc90f4b4d13a2c342c7) ∷
    row 1229 0x2c97b013 with (at, 0x5ec)
    => (51, 0x73e6f75895ce97d37da38d1cd2097da7a33dbbea65bb3f24e4b583c150e3dc4a) ∷
    row 1230 0x2ca77bde with (30, 0x2049cd724)
    => (62, 0xd142fd73842b0406f14da090498a4102046803cc666059a7fdb0f625daad4df5) ∷
    row 1231 0x2c8e8769 with (27, 0x47a37ad)
    => (41, 0xa89bdc74e304860e2658b669cb3dc84d61ef20f42ae4c51e5b5f1c1401f97c7) ∷
    row 1232 0x2cbfc6c5 with (22, 0x4e5430b)
    => (37, 0x7a8088cff3de64e268aa63c7cb86502e72b1d7c8faa517239896e4d3813ab9c0) ∷
    row 1233 0x2c885b60 with (27, 0x404333b4b)
    => (32, 0xc027ba117535598b6622bf8bd6019bff27fb5e0f8e44ba1b05b1959c9dfeb3e1) ∷
    row 1234 0x2c94d120 with (9, 0x20464254b)
    => (32, 0x42b94a07d235265bff025cdabc25bff7d72908b6fd8d353bcb2d4d9c966b8629) ∷
    row 1235 0x2c971162 with (11, 0xfffffffffffffb15) with (at, 0xd9)
    => (34, 0x94c0ec370addcb5308db298c7df2bc1698d2ffeb487e888344a86f536a813098) ∷
    row 1236 0x2c9a701c with (at, 0x69c)
    => (60, 0x29ed411b1f2f4872b4558bc91b68905d5a9b6f806f18b3f11cbeec411a3fb32e) ∷
    row 1237 0x2cb1be55 with (18, 0x49dfb0d)
    => (53, 0x89f58d760f299db82aabe57c94873ccbe73fd68c715bb787a29a7ee5a5a70dec) ∷
    row 1238 0x2c988718 with (24, 0x4affead)
    => (56, 0x301c6e09dacccb2588a3f092e94ec160fd090c254f4793448d4bc0c10cb740d1) ∷
    row 1239 0x2c8a3b0a with (24, 0x2044facf4)
    => (42, 0xa2bf7f528218d0ba11950f3419bf1e1d9c48381f08dc472842d8fa134f704bdd) ∷
    row 1240 0x2cac27e3 with (31, 0x47cfc90)
    => (35, 0x5546d0d4050dae767bed8b3825d85301be71dea59e19d3341cd3cb1c6dd22f10) ∷
    []) ∷
    -- xvst
    group 0x0 (
    row 1241 0x2cc0037d with (27, 0x4e287bd) => (m0, 0x72357b23c1961482) => (m1, 0x360fffd8346a37a5)
    => (m2, 0x20effe5c8a92cb1d) => (m3, 0x8edfc2d4a1541d0c) ∷
    row 1242 0x2cffff00 with (24, 0x4042b0a99) => (m0, 0xcf5d5bf0d476404b)
    => (m1, 0x3c1ff398d05eeab1) => (m2, 0x9e242cfe056253f5) => (m3, 0x942cd1cdf625bfed) ∷
    row 1243 0x2ccf1a5d with (18, 0xffffffffffffff2b) with (at, 0x2f1) => (m0, 0x8f210d464ea5e9bc)
    => (m1, 0x3dd7df18cd970fdb) => (m2, 0x743aa5e144f15aa9) => (m3, 0x4016a493dfb570d6) ∷
    row 1244 0x2cd7d814 with (at, 0x5f6) => (m0, 0x575870f130fb957c) => (m1, 0xef0a79732551ed93)
    => (m2, 0x85e945b5aabaf3f5) => (m3, 0x79954e66ac1c8c5) ∷
    row 1245 0x2cdffc6b with (3, 0x204ab90d0) => (m0, 0x4677741f698df466)
    => (m1, 0x5956d5c2e921da5a) => (m2, 0x6b17a8a7c1b54bbc) => (m3, 0x9cb35cbeb8b69730) ∷
    row 1246 0x2cfffe31 with (17, 0x47fe68b) => (m0, 0x4cbabd401ebd6be2) => (m1, 0xc68f8206f72130df)
    => (m2, 0xe995995ddb32a643) => (m3, 0x94eaf4d7d059259c) ∷
    row 1247 0x2cc005b5 with (13, 0x204e1d1a6) => (m0, 0x390b2ee79a71547b)
    => (m1, 0xa926a83220105b8f) => (m2, 0xcb0257ccf5948686) => (m3, 0xd8aa4450655aeeb4) ∷
    row 1248 0x2ce00052 with (2, 0x426b77c) => (m0, 0xf86ccadab6225d1d) => (m1, 0xf4d7352a19d7e269)
    => (m2, 0xe130573f4c023e61) => (m3, 0xbb0ddebc8e103634) ∷
    row 1249 0x2cdfff05 with (24, 0x4a3cd5f) => (m0, 0xc5210ee3869976a9) => (m1, 0xe9936098a160c177)
    => (m2, 0xbe7c4aca90867c2b) => (m3, 0x258d3e7e3276a9ac) ∷
    row 1250 0x2cc00120 with (9, 0x459434d) => (m0, 0x43aaa84b38a49bd3) => (m1, 0x40085ea1c073d48)
    => (m2, 0x83046ab9040fd9ee) => (m3, 0x10be0064f894577f) ∷
    row 1251 0x2cd57012 with (at, 0x55c) => (m0, 0x741345e7e48f489b) => (m1, 0x289f8ed6c5ff8bf9)
    => (m2, 0x77adb94ca17c6233) => (m3, 0xa2f1ef6b917b9217) ∷
    row 1252 0x2cddd009 with (at, 0x774) => (m0, 0x53ae319b1f309acd) => (m1, 0x9755bdbff86e4d87)
    => (m2, 0x7c93f6b2fb465f65) => (m3, 0x7409ca3bd2efae81) ∷
    row 1253 0x2cdfff9a with (28, 0x20475e014) => (m0, 0x92530b5b2bdb8590)
    => (m1, 0xe9c318c0c110d1b2) => (m2, 0x9f6e6691bd236a0f) => (m3, 0x49a3ab4e06ae8ad8) ∷
    row 1254 0x2cc0014a with (10, 0x4040c7636) => (m0, 0x6ce63a2625b1b3f9)
    => (m1, 0xe371318e9f42cb7a) => (m2, 0x3152e44c86ebda2b) => (m3, 0xa6ceaf760787c54f) ∷
    row 1255 0x2cffff08 with (24, 0x204db4c68) => (m0, 0x14d3cd9c0c63b44)
    => (m1, 0xa69aba0b30ace6a4) => (m2, 0x652d2cb9e036cea5) => (m3, 0x202e05b33efca501) ∷
    row 1256 0x2ce00121 with (9, 0x2048d1d4f) => (m0, 0xa8d7d3b2f26c19e3)
    => (m1, 0xa411cdb3f3c4e4e1) => (m2, 0xfcd9e935d54ad1d6) => (m3, 0xb2c7d06d584d3b07) ∷
    row 1257 0x2cdffcc3 with (6, 0x20421c8f0) => (m0, 0x2c6ac08c1d8bdfa6)
    => (m1, 0x1d014d937a653629) => (m2, 0x30c73f630b63a107) => (m3, 0x31cdd954fc987c60) ∷
    row 1258 0x2cc000a0 with (5, 0x204997f47) => (m0, 0x94b660d65e2ac118)
    => (m1, 0xd460e14ae5ecae78) => (m2, 0xcd78fc065476113d) => (m3, 0xf8da0297a6dae7d7) ∷
    row 1259 0x2cce76a4 with (21, 0xfffffffffffffd40) with (at, 0xdd) => (m0, 0x3c6df87912c8f89c)
    => (m1, 0xbe4ba2069467fe5f) => (m2, 0xeb22fddeb3ae6218) => (m3, 0xaf9ca7234745aaa3) ∷
    row 1260 0x2cce0c09 with (at, 0x383) => (m0, 0x8901db6c2be63544) => (m1, 0xabbf9b26d3510b20)
    => (m2, 0x8dbb9ddae94b8226) => (m3, 0xc1918726ec49ab43) ∷
    row 1261 0x2cc97897 with (4, 0x452383f) => (m0, 0x5c7410f4d3e972a4) => (m1, 0xf2881d01ce5e87ed)
    => (m2, 0xa7174d2aa47c65f4) => (m3, 0x1d0f4c1f01caf70c) ∷
    row 1262 0x2ce8bfbd with (29, 0x40455b9a4) => (m0, 0x3ff88ece856bfa36)
    => (m1, 0xd440fcbcc8439b41) => (m2, 0x936f6e738ca4c433) => (m3, 0x39fb51d95be1033b) ∷
    row 1263 0x2cf68d98 with (12, 0x4e6ccca) => (m0, 0xcb66ee4dc4a5ad98) => (m1, 0x9c23751901a4956e)
    => (m2, 0x86ff04f43c4f9c97) => (m3, 0xe7df0150a349f698) ∷
    row 1264 0x2cc366d5 with (22, 0x204b0283a) => (m0, 0xe57b4c5e372ddbbf)
    => (m1, 0x2ad1bd4983d07335) => (m2, 0x669768a6e856c6e3) => (m3, 0xabe1c8d2f2df4c18) ∷
    row 1265 0x2cfbac7f with (3, 0x2045c7b86) => (m0, 0x997a366154d7c055)
    => (m1, 0xb29e303b0d44dd21) => (m2, 0x7760be496d1f9ce1) => (m3, 0x75dc87bc57f8d7ec) ∷
    row 1266 0x2cce46e0 with (23, 0x49665a1) => (m0, 0xc28085924508b019) => (m1, 0xad4105bb2e0f3e42)
    => (m2, 0x7d81e0e5f694f9e4) => (m3, 0x4c80d86600f970f6) ∷
    row 1267 0x2cd043c8 with (30, 0xfffffffffffffd09) with (at, 0x119) => (m0, 0x5363dd4cbff4afa2)
    => (m1, 0x9cdfbaae4c72a444) => (m2, 0xdff8465dcad979d9) => (m3, 0x4eb858ff08eb983b) ∷
    row 1268 0x2cd86006 with (at, 0x618) => (m0, 0x973a9876d3bd8194) => (m1, 0xb6c4f0a2094ae6cb)
    => (m2, 0x2b8964718936c018) => (m3, 0x9e5d27376df0e197) ∷
    row 1269 0x2cd87052 with (2, 0x40495dfa5) => (m0, 0xb9dc7fb6f6140d51)
    => (m1, 0x646b06a48fba03b4) => (m2, 0x752ef935b53f14ff) => (m3, 0x9c4c70fd988ac4d9) ∷
    row 1270 0x2cf04673 with (19, 0x404b0f8a5) => (m0, 0x1a13f56bc0299421)
    => (m1, 0xa67fbd2595fc46e8) => (m2, 0x7933958a50719b51) => (m3, 0x4f628f28ae44cb79) ∷
    row 1271 0x2ced0630 with (17, 0x204aefb22) => (m0, 0xecf789b235643dff)
    => (m1, 0x5b50f1680ecb2cc9) => (m2, 0x94e25578c1ce79e0) => (m3, 0xa486d4267f615ade) ∷
    row 1272 0x2cd9553c with (9, 0x2043a8f1d) => (m0, 0xdde984c76eb148cf)
    => (m1, 0xf86e509f6b44efc2) => (m2, 0x2f3cf531db2bbebd) => (m3, 0xce41ae218ba0fa3b) ∷
    row 1273 0x2cc9de1d with (16, 0x4a924c2) => (m0, 0x3882c8ba3ca5d11e) => (m1, 0x724c57d5fa022089)
    => (m2, 0x779f11bce46fcafc) => (m3, 0xd9be433cad2ec321) ∷
    row 1274 0x2cfe9be0 with (31, 0x404faac11) => (m0, 0xcd09167eed3e68d7)
    => (m1, 0x8ea0f33af46eeca6) => (m2, 0xbdf2ef9299f33d22) => (m3, 0x9c9ad1b9c96463f0) ∷
    row 1275 0x2cdae66c with (19, 0xfffffffffffffad7) with (at, 0x190) => (m0, 0x289b63ecfa45b883)
    => (m1, 0xd751de4e847c8571) => (m2, 0x4d713fc40537e3f7) => (m3, 0x60d4cf122279d9e2) ∷
    row 1276 0x2ccc9c18 with (at, 0x327) => (m0, 0xea2da320d0089b47) => (m1, 0xdbcbcb913cb545aa)
    => (m2, 0xd96da34b9c8d1c69) => (m3, 0x731b4e1892109081) ∷
    row 1277 0x2cd20f75 with (27, 0x40440e4fe) => (m0, 0x9f562b213c20cce9)
    => (m1, 0x72adaba5f14a06a) => (m2, 0xc52d6795ea0ba602) => (m3, 0x2e79c6c496f1e5a) ∷
    row 1278 0x2cce358c with (12, 0x2041e3552) => (m0, 0xc45cca596faf5ea3)
    => (m1, 0x51618e82400e088a) => (m2, 0x44860f9fec1240ff) => (m3, 0x6c845f6760608044) ∷
    row 1279 0x2cdc0e96 with (20, 0x433c947) => (m0, 0xd08cd360e34ba727) => (m1, 0xd5ccf70b06186cbc)
    => (m2, 0x666b8f7388dec852) => (m3, 0xf8afeb9e6adc4654) ∷
    row 1280 0x2cd16c07 with (at, 0x45b) => (m0, 0x435608767419a0d3) => (m1, 0x9cf6924197c6606c)
    => (m2, 0x4c354ec8647984bf) => (m3, 0xc23a2250fd08803a) ∷
    []) ∷
    -- pcaddu12i
    group 0x0 (
    row 1281 0x1c000004 => (4, 0x2015067b0) ∷
    row 1282 0x1dffffe0 ∷
    row 1283 0x1c00003c => (28, 0x40150d788) ∷
    row 1284 0x1d000017 => (23, 0x381510518) ∷
    row 1285 0x1cfffff9 => (25, 0x281514034) ∷
    row 1286 0x1dffffed => (13, 0x151a0d8) ∷
    row 1287 0x1c000036 => (22, 0x40151e458) ∷
    row 1288 0x1d000015 => (21, 0xffffffff81521568) ∷
    row 1289 0x1cfffffd => (29, 0x81524ea8) ∷
    row 1290 0x1c000000 ∷
    row 1291 0x1c000027 => (7, 0x20152ec70) ∷
    row 1292 0x1d000007 => (7, 0x38153364c) ∷
    row 1293 0x1cffffe3 => (3, 0x81533b0c) ∷
    row 1294 0x1c00000c => (12, 0x40153b550) ∷
    row 1295 0x1dffffff => (31, 0x20153d7cc) ∷
    row 1296 0x1d00000d => (13, 0x381541d24) ∷
    row 1297 0x1cfffff3 => (19, 0x281546ab4) ∷
    row 1298 0x1c000000 ∷
    row 1299 0x1dffffe8 => (8, 0x40154b66c) ∷
    row 1300 0x1c000020 ∷
    row 1301 0x1d1aace2 => (2, 0x38eabe2f8) ∷
    row 1302 0x1df1818f => (15, 0x1fa165c38) ∷
    row 1303 0x1c5df74b => (11, 0x305195ac) ∷
    row 1304 0x1c18a004 => (4, 0x40da629fc) ∷
    row 1305 0x1c46d088 => (8, 0x424bea92c) ∷
    row 1306 0x1d457c60 ∷
    row 1307 0x1c152332 => (18, 0x20be862d8) ∷
    row 1308 0x1d7e87dc => (28, 0xffffffffc09b12a8) ∷
    row 1309 0x1d508f5d => (29, 0x3a99f0aa8) ∷
    row 1310 0x1cb3b0c2 => (2, 0x45b301034) ∷
    row 1311 0x1c1ae4c2 => (2, 0x20eca58a0) ∷
    row 1312 0x1c6ee4b7 => (23, 0x38ca73ec) ∷
    row 1313 0x1c8a308c => (12, 0x467084c0) ∷
    row 1314 0x1d73abc0 ∷
    row 1315 0x1dba8c51 => (17, 0xffffffffde9ef9b0) ∷
    row 1316 0x1cab346f => (15, 0x56f355cc) ∷
    row 1317 0x1c02c330 => (16, 0x202bae770) ∷
    row 1318 0x1c57a67c => (28, 0x2d2cdea0) ∷
    row 1319 0x1c04a3a7 => (7, 0x3ab9604) ∷
    row 1320 0x1cb17ad6 => (22, 0x25a1792f0) ∷
    []) ∷
    -- sub.d
    group 0x0 (
    row 1321 0x0011d2b4 with (20, 0) with (21, 0) ∷
    row 1322 0x0011ba40 with (14, 0xffffffff) with (18, 0x8000000000000000) ∷
    row 1323 0x0011ceb7 with (19, 0x7fffffffffffffff) with (21, 0x7fffffff)
    => (23, 0x8000000080000000) ∷
    row 1324 0x0011ac1d with (11, 1) => (29, 0xffffffffffffffff) ∷
    row 1325 0x001189b7 with (2, 0xffffffff7fffffff) with (13, 0xffffffffffffffff)
    => (23, 0x80000000) ∷
    row 1326 0x001198c6 with (6, 0x80000000) => (6, 0) ∷
    row 1327 0x0011b3b1 with (12, 0xffffffffffffffff) with (29, 0xffffffff7fffffff)
    => (17, 0xffffffff80000000) ∷
    row 1328 0x00119768 with (5, 0xffffffff80000000) with (27, 1) => (8, 0x80000001) ∷
    row 1329 0x0011975b with (5, 0x7fffffff) with (26, 0x7fffffffffffffff)
    => (27, 0x7fffffff80000000) ∷
    row 1330 0x0011c9c0 with (14, 0xffffffff) with (18, 0x8000000000000000) ∷
    row 1331 0x0011bea2 with (15, 1) with (21, 1) => (2, 0) ∷
    row 1332 0x0011c406 with (17, 0xffffffff7fffffff) => (6, 0x80000001) ∷
    row 1333 0x0011ffd6 with (30, 0xffffffff) with (31, 0x80000000) => (22, 0x7fffffff) ∷
    row 1334 0x0011b18c with (12, 0) ∷
    row 1335 0x001182c8 with (22, 0x8000000000000000) => (8, 0x8000000000000000) ∷
    row 1336 0x0011d5f9 with (15, 0x7fffffff) with (21, 0x7fffffff) => (25, 0) ∷
    row 1337 0x00119c03 with (7, 0x8000000000000000) => (3, 0x8000000000000000) ∷
    row 1338 0x0011c2a0 with (16, 0) with (21, 0xffffffffffffffff) ∷
    row 1339 0x00119c34 with (1, 0x80000000) with (7, 0xffffffff) => (20, 0xffffffff80000001) ∷
    row 1340 0x00119806 with (6, 0x7fffffffffffffff) => (6, 0x8000000000000001) ∷
    row 1341 0x0011da5c => (28, 0x8bc63046384d8a25) ∷
    row 1342 0x0011ce73 => (19, 0) ∷
    row 1343 0x00118dbe => (30, 0x5789c60bcb06060) ∷
    row 1344 0x0011a6fb => (27, 0x57142c98fa4304) ∷
    row 1345 0x00119ed2 => (18, 0x4ec49965d88b02b2) ∷
    row 1346 0x0011dd60 ∷
    row 1347 0x0011f75d => (29, 0x906a50181ed5fa13) ∷
    row 1348 0x00119809 => (9, 0xc8a310b213e6f211) ∷
    row 1349 0x0011d2f8 => (24, 0xfa345ae83f4891f) ∷
    row 1350 0x0011def7 => (23, 0) ∷
    row 1351 0x0011e2c4 => (4, 0xe8e37625c6346e3b) ∷
    row 1352 0x0011a91a => (26, 0x64c28830697d2302) ∷
    row 1353 0x0011ca4c => (12, 0) ∷
    row 1354 0x0011a4c0 ∷
    row 1355 0x0011be66 => (6, 0x2078fbfbae2d1939) ∷
    row 1356 0x00119011 => (17, 0x4332bf93beb414cc) ∷
    row 1357 0x0011bff5 => (21, 0xa381ffd460bbdf3a) ∷
    row 1358 0x0011ad6b => (11, 0) ∷
    row 1359 0x0011b61d => (29, 0xb2a1721444f24d9a) ∷
    row 1360 0x0011d1d1 => (17, 0x7e95745e8cfe90d6) ∷
    []) ∷
    -- srli.d
    group 0x0 (
    row 1361 0x0045026e with (19, 0) => (14, 0) ∷
    row 1362 0x0045fd80 with (12, 0x8000000000000000) ∷
    row 1363 0x004504b2 with (5, 0x7fffffff) => (18, 0x3fffffff) ∷
    row 1364 0x00450016 => (22, 0) ∷
    row 1365 0x0045fc90 with (4, 0xffffffffffffffff) => (16, 1) ∷
    row 1366 0x0045fc00 ∷
    row 1367 0x00450661 with (19, 0xffffffff7fffffff) => (1, 0x7fffffffbfffffff) ∷
    row 1368 0x00450059 with (2, 1) => (25, 1) ∷
    row 1369 0x0045fd26 with (9, 0x7fffffffffffffff) => (6, 0) ∷
    row 1370 0x004502e0 with (23, 0xffffffff) ∷
    row 1371 0x004506da with (22, 1) => (26, 0) ∷
    row 1372 0x0045000b => (11, 0) ∷
    row 1373 0x0045fdd7 with (14, 0xffffffff) => (23, 0) ∷
    row 1374 0x004502b5 with (21, 0) ∷
    row 1375 0x0045fc4a with (2, 0x8000000000000000) => (10, 1) ∷
    row 1376 0x00450180 with (12, 0x7fffffff) ∷
    row 1377 0x0045ffec with (31, 0xffffffff80000000) => (12, 1) ∷
    row 1378 0x004501e0 with (15, 0xffffffffffffffff) ∷
    row 1379 0x0045fc43 with (2, 0x80000000) => (3, 0) ∷
    row 1380 0x00450404 => (4, 0) ∷
    row 1381 0x00454906 => (6, 0x39f53f9d9f18) ∷
    row 1382 0x004552d6 => (22, 0x2234288967d) ∷
    row 1383 0x0045dddd => (29, 0x1c7) ∷
    row 1384 0x0045f878 => (24, 3) ∷
    row 1385 0x0045de60 ∷
    row 1386 0x004508c0 ∷
    row 1387 0x00457f0d => (13, 0xe0bf95b1) ∷
    row 1388 0x0045d814 => (20, 0) ∷
    row 1389 0x0045242a => (10, 0x61f5ffd4e59872) ∷
    row 1390 0x00455ad6 => (22, 0xa48245147f) ∷
    row 1391 0x0045542b => (11, 0x1487f8440b3) ∷
    row 1392 0x0045e81e => (30, 0) ∷
    row 1393 0x0045e9ec => (12, 0x13) ∷
    row 1394 0x00451100 ∷
    row 1395 0x00452f5d => (29, 0x55be7545bcd06) ∷
    row 1396 0x00458009 => (9, 0) ∷
    row 1397 0x004523db => (27, 0x181c9d47633d91) ∷
    row 1398 0x0045e129 => (9, 0x4e) ∷
    row 1399 0x00452dda => (26, 0x4b1cb6aad9d12) ∷
    row 1400 0x00453247 => (7, 0x469063e1a539d) ∷
    []) ∷
    []
