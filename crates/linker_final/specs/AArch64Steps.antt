-- What the emulator unicorn 2.0.1 made of instructions. `tools/oracle steps` makes this file.
use Rattle.std.specs.Prelude.{List, [], ◌∷◌}
use Rattle.linker_final.specs.Steps.{Group, at, group, m1, m2, pc, row, ◌=>◌, ◌with◌}

unfoldable pub aarch64_groups : List Group
aarch64_groups =
    -- adrp
    group 0x0 (
    row 1 0x90000018 => (24, 0x7000c865f000) ∷
    row 2 0xf0fffff9 => (25, 0x700081017000) ∷
    row 3 0xb000000a => (10, 0x7000a8407000) ∷
    row 4 0x90800003 => (3, 0x6fff3e22a000) ∷
    row 5 0xf07fffe5 => (5, 0x700142a84000) ∷
    row 6 0xf0fffffa => (26, 0x7000b5d14000) ∷
    row 7 0xb0000018 => (24, 0x7000979dd000) ∷
    row 8 0x90800005 => (5, 0x6fffe80d9000) ∷
    row 9 0xf07fffec => (12, 0x7001a720a000) ∷
    row 10 0x9000000d => (13, 0x7000d4d74000) ∷
    row 11 0xb0000016 => (22, 0x700071314000) ∷
    row 12 0x90800004 => (4, 0x6fff7c2e7000) ∷
    row 13 0xf07ffff2 => (18, 0x7001f5cf1000) ∷
    row 14 0x9000001b => (27, 0x7000de133000) ∷
    row 15 0xf0ffffe7 => (7, 0x700034fa9000) ∷
    row 16 0x90800011 => (17, 0x6ffffa857000) ∷
    row 17 0xf07fffe3 => (3, 0x70012eb39000) ∷
    row 18 0x90000009 => (9, 0x7000d1853000) ∷
    row 19 0xf0ffffec => (12, 0x7000e2fa1000) ∷
    row 20 0xb000001d => (29, 0x700063128000) ∷
    row 21 0xf0c58499 => (25, 0x6fffdcd75000) ∷
    row 22 0x9013e3ca => (10, 0x7000d6f4b000) ∷
    row 23 0xd0bff8da => (26, 0x6ffffb214000) ∷
    row 24 0x90fde9c2 => (2, 0x7000b1a90000) ∷
    row 25 0x90a3f55e => (30, 0x6fffa7093000) ∷
    row 26 0x90116e62 => (2, 0x700099e80000) ∷
    row 27 0xd0b4aa50 => (16, 0x700066efd000) ∷
    row 28 0xb0ab83dc => (28, 0x700049d62000) ∷
    row 29 0xd085296a => (10, 0x6fff60f82000) ∷
    row 30 0xb02e8047 => (7, 0x7000861ff000) ∷
    row 31 0xb05ac60e => (14, 0x70011fc8e000) ∷
    row 32 0xb0c5ddb1 => (17, 0x6fffa5b90000) ∷
    row 33 0xf01625ff ∷
    row 34 0xd0872a87 => (7, 0x6fffd3bea000) ∷
    row 35 0x90af1ca6 => (6, 0x70001f4dc000) ∷
    row 36 0xd010a3b3 => (19, 0x70004caa3000) ∷
    row 37 0xb0c9d369 => (9, 0x6fff97fb6000) ∷
    row 38 0x90fe77dd => (29, 0x700048d93000) ∷
    row 39 0xd077b779 => (25, 0x7000f1911000) ∷
    row 40 0xb07f10c5 => (5, 0x7001251f9000) ∷
    []) ∷
    -- adr
    group 0x0 (
    row 41 0x10000011 => (17, 0x7000ba7d4ba4) ∷
    row 42 0x70fffff5 => (21, 0x7000bc9fea37) ∷
    row 43 0x3000000c => (12, 0x70002d65e96d) ∷
    row 44 0x10800012 => (18, 0x70000cbf4938) ∷
    row 45 0x707fffff ∷
    row 46 0x70fffffc => (28, 0x7000178c2aaf) ∷
    row 47 0x30000010 => (16, 0x700042dfac55) ∷
    row 48 0x10800006 => (6, 0x7000dcc68e98) ∷
    row 49 0x707ffff3 => (19, 0x7000e580d177) ∷
    row 50 0x10000014 => (20, 0x70005cae74f8) ∷
    row 51 0x3000000b => (11, 0x7000428f7915) ∷
    row 52 0x10800015 => (21, 0x70009703ddcc) ∷
    row 53 0x707fffe4 => (4, 0x70005a4ba31f) ∷
    row 54 0x1000001a => (26, 0x70008c06c910) ∷
    row 55 0x70fffff4 => (20, 0x70002c754f9f) ∷
    row 56 0x10800000 => (0, 0x70003b7736cc) ∷
    row 57 0x707ffff3 => (19, 0x7000b94c7e93) ∷
    row 58 0x10000011 => (17, 0x7000a59526fc) ∷
    row 59 0x70fffff7 => (23, 0x700000912fff) ∷
    row 60 0x3000000f => (15, 0x7000ca3099a1) ∷
    row 61 0x7071c215 => (21, 0x700002819c1f) ∷
    row 62 0x50ec2018 => (24, 0x7000a95712ba) ∷
    row 63 0x50cb2960 => (0, 0x7000bedc7f5e) ∷
    row 64 0x7012d60c => (12, 0x700043126107) ∷
    row 65 0x30f987cb => (11, 0x700035df83f1) ∷
    row 66 0x505b36a0 => (0, 0x7000975f671e) ∷
    row 67 0x5021edea => (10, 0x7000676f4bf2) ∷
    row 68 0x302a3a9a => (26, 0x7000a62ac40d) ∷
    row 69 0x30b97e80 => (0, 0x7000537a7bb1) ∷
    row 70 0x50502c23 => (3, 0x70006f8e812a) ∷
    row 71 0x5091b866 => (6, 0x7000fa1b4312) ∷
    row 72 0x302d6fc1 => (1, 0x7000f376aafd) ∷
    row 73 0x50714e27 => (7, 0x70005b6a7862) ∷
    row 74 0x108466f7 => (23, 0x700031db8db0) ∷
    row 75 0x10a85871 => (17, 0x700077121eb8) ∷
    row 76 0x30bf3f43 => (3, 0x70002aea6f05) ∷
    row 77 0x707ca930 => (16, 0x70004d7af053) ∷
    row 78 0x701aeead => (13, 0x7000de8aedaf) ∷
    row 79 0x50acae4e => (14, 0x7000de3cbaea) ∷
    row 80 0x502372a3 => (3, 0x70004cae895e) ∷
    []) ∷
    -- add
    group 0x0 (
    row 81 0x91000193 with (12, 0) => (19, 0) ∷
    row 82 0x913ffd7a with (11, 0x8000000000000000) => (26, 0x8000000000000fff) ∷
    row 83 0x9100053d with (9, 0x7fffffff) => (29, 0x80000000) ∷
    row 84 0x9120019a with (12, 0xffffffff80000000) => (26, 0xffffffff80000800) ∷
    row 85 0x913fffbc with (29, 0xffffffffffffffff) => (28, 0xffe) ∷
    row 86 0x91000729 with (25, 0x80000000) => (9, 0x80000001) ∷
    row 87 0x912002d5 with (22, 0xffffffff7fffffff) => (21, 0xffffffff800007ff) ∷
    row 88 0x91000226 with (17, 1) => (6, 1) ∷
    row 89 0x91000568 with (11, 0x7fffffffffffffff) => (8, 0x8000000000000000) ∷
    row 90 0x912002ff with (23, 0xffffffff) => (31, 0x1000007ff) ∷
    row 91 0x91000072 with (3, 1) => (18, 1) ∷
    row 92 0x913ffe10 with (16, 0x7fffffffffffffff) => (16, 0x8000000000000ffe) ∷
    row 93 0x912002bf with (21, 0xffffffff) => (31, 0x1000007ff) ∷
    row 94 0x9100019d with (12, 0) => (29, 0) ∷
    row 95 0x913ffffc with (31, 0x8000000000000000) => (28, 0x8000000000000fff) ∷
    row 96 0x9100055c with (10, 0x7fffffff) => (28, 0x80000000) ∷
    row 97 0x91000169 with (11, 0xffffffff80000000) => (9, 0xffffffff80000000) ∷
    row 98 0x913ffe87 with (20, 0xffffffffffffffff) => (7, 0xffe) ∷
    row 99 0x9100048c with (4, 0x80000000) => (12, 0x80000001) ∷
    row 100 0x91200376 with (27, 0xffffffff7fffffff) => (22, 0xffffffff800007ff) ∷
    row 101 0x9125332b => (11, 0xb2b40afe0eae2352) ∷
    row 102 0x913741d9 => (25, 0x540adc7a09c2482e) ∷
    row 103 0x9117a02a => (10, 0xf6cf0829fe2f3c6e) ∷
    row 104 0x9123bb76 => (22, 0xa98be1310f60b5f) ∷
    row 105 0x9136a493 => (19, 0xbfff110eb55a6733) ∷
    row 106 0x910730f7 => (23, 0x46a2de9fdee2f7c8) ∷
    row 107 0x9100460f => (15, 0xba9ca69797c742c) ∷
    row 108 0x9119dbed => (13, 0x1fd1bc1b39cfba67) ∷
    row 109 0x9137204a => (10, 0xe48ab321d876876) ∷
    row 110 0x91374c4e => (14, 0x97855dd7fff72efd) ∷
    row 111 0x9115114e => (14, 0x99f282396e4aa283) ∷
    row 112 0x9134e92b => (11, 0x3b1438fdffe662b0) ∷
    row 113 0x91326fa7 => (7, 0x97d16469d4eef1c8) ∷
    row 114 0x91133087 => (7, 0x958cba0a06ba37e9) ∷
    row 115 0x912bfe5f => (31, 0x668065e140219206) ∷
    row 116 0x910d7726 => (6, 0x6be797d2a25c9fae) ∷
    row 117 0x912d1a47 => (7, 0xa862ca310809344a) ∷
    row 118 0x910bb461 => (1, 0xe48a3f801b1cb649) ∷
    row 119 0x911a3a9b => (27, 0xe92a1c4fba6fc630) ∷
    row 120 0x911970a9 => (9, 0x4a5fc55144e0cb37) ∷
    []) ∷
    -- ldr
    group 0x0 (
    row 121 0xf940031f with (24, 0x600020f2c0f2) ∷
    row 122 0xf97fff55 with (26, 0x60003d1a1dbe) => (21, 0xf4729ad5cc366a00) ∷
    row 123 0xf94006e5 with (23, 0x600034eb5298) => (5, 0x4bf85bbff1bcd2b2) ∷
    row 124 0xf9600323 with (25, 0x600008649fb2) => (3, 0x1cee250af2ec138a) ∷
    row 125 0xf97ffdb5 with (13, 0x60003786c4f3) => (21, 0x80d456e2cfc42c8b) ∷
    row 126 0xf9400528 with (9, 0x600002528243) => (8, 0x6464e51b88451db2) ∷
    row 127 0xf96002dd with (22, 0x600028c657d2) => (29, 0x12d16acb1c6ee701) ∷
    row 128 0xf9400078 with (3, 0x60002ae38581) => (24, 0xcad6db078c418877) ∷
    row 129 0xf9400744 with (26, 0x600008a94b4f) => (4, 0x8bde25a4d7bd0214) ∷
    row 130 0xf96001e2 with (15, 0x60000217a954) => (2, 0x504406cefee153d8) ∷
    row 131 0xf940018b with (12, 0x6000172f5f79) => (11, 0x23e6165a01ae7dc4) ∷
    row 132 0xf97ffc3a with (1, 0x600007ef2dcd) => (26, 0xf4ac6871e0247fd7) ∷
    row 133 0xf9600111 with (8, 0x600014589438) => (17, 0xdae93cea9a435a12) ∷
    row 134 0xf94003c7 with (30, 0x60003c6ad2d2) => (7, 0x8c0208da300b0c73) ∷
    row 135 0xf97ffe39 with (17, 0x60000025299c) => (25, 0xb0e79956a17b96fc) ∷
    row 136 0xf94006c3 with (22, 0x60001f895875) => (3, 0x749b2a33ee94f9ac) ∷
    row 137 0xf9400298 with (20, 0x60001a95df8d) => (24, 0xa5e12b9e17573484) ∷
    row 138 0xf97ffda2 with (13, 0x6000314abecc) => (2, 0x7c2f81691bc24782) ∷
    row 139 0xf940050c with (8, 0x600023a9761b) => (12, 0x1d59ceaafbd632a8) ∷
    row 140 0xf9600388 with (28, 0x600031b045a9) => (8, 0xa2bf0e79b792f5f5) ∷
    row 141 0xf955f1bc with (13, 0x60001b604176) => (28, 0x568420a94ef8916a) ∷
    row 142 0xf9790d65 with (11, 0x600020b8bb13) => (5, 0xe849d165c2070506) ∷
    row 143 0xf96080e2 with (7, 0x600001ba8426) => (2, 0xaea9a88310be50c9) ∷
    row 144 0xf96a463b with (17, 0x60003e64e0c2) => (27, 0x4ccfca2d3b1e74b3) ∷
    row 145 0xf97dd179 with (11, 0x600016b801f4) => (25, 0x25ca6638412770c5) ∷
    row 146 0xf957f37c with (27, 0x60000ab46e25) => (28, 0xc9a0f9ba22d944fd) ∷
    row 147 0xf95371dc with (14, 0x60001a596fbe) => (28, 0xbbe659c8e033f15e) ∷
    row 148 0xf94d9512 with (8, 0x600005a74c37) => (18, 0x7257b238793775e5) ∷
    row 149 0xf95417bf with (29, 0x60000c9de81e) ∷
    row 150 0xf950e404 with (0, 0x60002f3d6f8d) => (4, 0x3a09a0923e39076a) ∷
    row 151 0xf9467260 with (19, 0x60002d85ddab) => (0, 0x450fe27c6a371467) ∷
    row 152 0xf9623d8d with (12, 0x60000776d770) => (13, 0x20b6c4c771ddf98b) ∷
    row 153 0xf97794ac with (5, 0x60003d10b644) => (12, 0xc7399e89552db6d7) ∷
    row 154 0xf96541ee with (15, 0x60000e53bc98) => (14, 0x265f1ed814264c4a) ∷
    row 155 0xf95fc76c with (27, 0x60003b3f8163) => (12, 0xdf7cbd87aec7b9e4) ∷
    row 156 0xf9629a3a with (17, 0x600003d40db6) => (26, 0x4b02aec42511ffa6) ∷
    row 157 0xf9524a25 with (17, 0x600028119877) => (5, 0x16bb126177051d8f) ∷
    row 158 0xf95bcbd4 with (30, 0x600027f7c7c0) => (20, 0x8ea1748ba4a1139f) ∷
    row 159 0xf968b763 with (27, 0x60000386c858) => (3, 0x6cf49d16ade5e1d6) ∷
    row 160 0xf97f39ee with (15, 0x60003abe8de8) => (14, 0x1623bd1892d38835) ∷
    []) ∷
    -- movz
    group 0x0 (
    row 161 0xd2800015 => (21, 0) ∷
    row 162 0xd2bffff7 => (23, 0xffff0000) ∷
    row 163 0xd2c0002c => (12, 0x100000000) ∷
    row 164 0xd2f0001c => (28, 0x8000000000000000) ∷
    row 165 0xd29ffff1 => (17, 0xffff) ∷
    row 166 0xd2a0002d => (13, 0x10000) ∷
    row 167 0xd2d0001f ∷
    row 168 0xd2e00000 => (0, 0) ∷
    row 169 0xd2800031 => (17, 1) ∷
    row 170 0xd2b00013 => (19, 0x80000000) ∷
    row 171 0xd2c00003 => (3, 0) ∷
    row 172 0xd2fffffe => (30, 0xffff000000000000) ∷
    row 173 0xd2900016 => (22, 0x8000) ∷
    row 174 0xd2a00004 => (4, 0) ∷
    row 175 0xd2dfffeb => (11, 0xffff00000000) ∷
    row 176 0xd2e00021 => (1, 0x1000000000000) ∷
    row 177 0xd2800003 => (3, 0) ∷
    row 178 0xd2bffffb => (27, 0xffff0000) ∷
    row 179 0xd2c00021 => (1, 0x100000000) ∷
    row 180 0xd2f0000d => (13, 0x8000000000000000) ∷
    row 181 0xd293d2e5 => (5, 0x9e97) ∷
    row 182 0xd2a5f869 => (9, 0x2fc30000) ∷
    row 183 0xd2dffdac => (12, 0xffed00000000) ∷
    row 184 0xd2fbd86d => (13, 0xdec3000000000000) ∷
    row 185 0xd29bcbb9 => (25, 0xde5d) ∷
    row 186 0xd2a1af46 => (6, 0xd7a0000) ∷
    row 187 0xd2c40b41 => (1, 0x205a00000000) ∷
    row 188 0xd2e60f98 => (24, 0x307c000000000000) ∷
    row 189 0xd29e5ff6 => (22, 0xf2ff) ∷
    row 190 0xd2a85938 => (24, 0x42c90000) ∷
    row 191 0xd2c9faf3 => (19, 0x4fd700000000) ∷
    row 192 0xd2f08c6b => (11, 0x8463000000000000) ∷
    row 193 0xd2961e92 => (18, 0xb0f4) ∷
    row 194 0xd2a1ff8d => (13, 0xffc0000) ∷
    row 195 0xd2cd8d17 => (23, 0x6c6800000000) ∷
    row 196 0xd2f87b6c => (12, 0xc3db000000000000) ∷
    row 197 0xd2998724 => (4, 0xcc39) ∷
    row 198 0xd2b71b56 => (22, 0xb8da0000) ∷
    row 199 0xd2db2a97 => (23, 0xd95400000000) ∷
    row 200 0xd2f6ec6c => (12, 0xb763000000000000) ∷
    []) ∷
    -- movn
    group 0x0 (
    row 201 0x9280000a => (10, 0xffffffffffffffff) ∷
    row 202 0x92bfffed => (13, 0xffffffff0000ffff) ∷
    row 203 0x92c00022 => (2, 0xfffffffeffffffff) ∷
    row 204 0x92f00017 => (23, 0x7fffffffffffffff) ∷
    row 205 0x929fffe3 => (3, 0xffffffffffff0000) ∷
    row 206 0x92a00038 => (24, 0xfffffffffffeffff) ∷
    row 207 0x92d0000d => (13, 0xffff7fffffffffff) ∷
    row 208 0x92e00013 => (19, 0xffffffffffffffff) ∷
    row 209 0x92800020 => (0, 0xfffffffffffffffe) ∷
    row 210 0x92b00008 => (8, 0xffffffff7fffffff) ∷
    row 211 0x92c0000c => (12, 0xffffffffffffffff) ∷
    row 212 0x92ffffe4 => (4, 0xffffffffffff) ∷
    row 213 0x92900013 => (19, 0xffffffffffff7fff) ∷
    row 214 0x92a0001c => (28, 0xffffffffffffffff) ∷
    row 215 0x92dfffe4 => (4, 0xffff0000ffffffff) ∷
    row 216 0x92e0003e => (30, 0xfffeffffffffffff) ∷
    row 217 0x9280000c => (12, 0xffffffffffffffff) ∷
    row 218 0x92bffff5 => (21, 0xffffffff0000ffff) ∷
    row 219 0x92c00029 => (9, 0xfffffffeffffffff) ∷
    row 220 0x92f00019 => (25, 0x7fffffffffffffff) ∷
    row 221 0x928f3222 => (2, 0xffffffffffff866e) ∷
    row 222 0x92be081e => (30, 0xffffffff0fbfffff) ∷
    row 223 0x92cabdf9 => (25, 0xffffaa10ffffffff) ∷
    row 224 0x92e6794b => (11, 0xcc35ffffffffffff) ∷
    row 225 0x92811842 => (2, 0xfffffffffffff73d) ∷
    row 226 0x92bb5bb0 => (16, 0xffffffff2522ffff) ∷
    row 227 0x92d994f1 => (17, 0xffff3358ffffffff) ∷
    row 228 0x92e9141a => (26, 0xb75fffffffffffff) ∷
    row 229 0x92936459 => (25, 0xffffffffffff64dd) ∷
    row 230 0x92b42459 => (25, 0xffffffff5eddffff) ∷
    row 231 0x92df4763 => (3, 0xffff05c4ffffffff) ∷
    row 232 0x92f03409 => (9, 0x7e5fffffffffffff) ∷
    row 233 0x9290bbbd => (29, 0xffffffffffff7a22) ∷
    row 234 0x92b0fd18 => (24, 0xffffffff7817ffff) ∷
    row 235 0x92c72d62 => (2, 0xffffc694ffffffff) ∷
    row 236 0x92fab4c3 => (3, 0x2a59ffffffffffff) ∷
    row 237 0x9291dc64 => (4, 0xffffffffffff711c) ∷
    row 238 0x92a242e4 => (4, 0xffffffffede8ffff) ∷
    row 239 0x92c40f3a => (26, 0xffffdf86ffffffff) ∷
    row 240 0x92f19144 => (4, 0x7375ffffffffffff) ∷
    []) ∷
    -- movk
    group 0x0 (
    row 241 0xf2800008 with (8, 0) ∷
    row 242 0xf2bfffe3 with (3, 0x8000000000000000) => (3, 0x80000000ffff0000) ∷
    row 243 0xf2c00036 with (22, 0x7fffffff) => (22, 0x17fffffff) ∷
    row 244 0xf2f00003 with (3, 0xffffffff80000000) => (3, 0x8000ffff80000000) ∷
    row 245 0xf29ffffd with (29, 0xffffffffffffffff) ∷
    row 246 0xf2a00039 with (25, 0x80000000) => (25, 0x10000) ∷
    row 247 0xf2d00004 with (4, 0xffffffff7fffffff) => (4, 0xffff80007fffffff) ∷
    row 248 0xf2e00001 with (1, 1) ∷
    row 249 0xf2800029 with (9, 0x7fffffffffffffff) => (9, 0x7fffffffffff0001) ∷
    row 250 0xf2b00012 with (18, 0xffffffff) => (18, 0x8000ffff) ∷
    row 251 0xf2c00004 with (4, 1) ∷
    row 252 0xf2ffffe0 with (0, 0x7fffffffffffffff) => (0, 0xffffffffffffffff) ∷
    row 253 0xf2900017 with (23, 0xffffffff) => (23, 0xffff8000) ∷
    row 254 0xf2a0000d with (13, 0) ∷
    row 255 0xf2dfffe1 with (1, 0x8000000000000000) => (1, 0x8000ffff00000000) ∷
    row 256 0xf2e00037 with (23, 0x7fffffff) => (23, 0x100007fffffff) ∷
    row 257 0xf2800010 with (16, 0xffffffff80000000) ∷
    row 258 0xf2bffffa with (26, 0xffffffffffffffff) ∷
    row 259 0xf2c00029 with (9, 0x80000000) => (9, 0x180000000) ∷
    row 260 0xf2f00012 with (18, 0xffffffff7fffffff) => (18, 0x8000ffff7fffffff) ∷
    row 261 0xf29a6fd4 => (20, 0xb868ffc45de5d37e) ∷
    row 262 0xf2b1ce08 => (8, 0x81b4f13d8e709ff9) ∷
    row 263 0xf2caa58e => (14, 0x4745552c0e77f0e8) ∷
    row 264 0xf2ec0499 => (25, 0x60247e9ebba00a1d) ∷
    row 265 0xf2812d91 => (17, 0x34ce6a0599f8096c) ∷
    row 266 0xf2a96cc6 => (6, 0xbf31a8114b66788f) ∷
    row 267 0xf2c05813 => (19, 0xb4c402c018ef2beb) ∷
    row 268 0xf2e28ae6 => (6, 0x1457d2dcd7ca449b) ∷
    row 269 0xf29f98f9 => (25, 0xa2c3885a1d3afcc7) ∷
    row 270 0xf2a42bae => (14, 0xc7ce6a16215db5d4) ∷
    row 271 0xf2d09736 => (22, 0x4c9984b99e76ccab) ∷
    row 272 0xf2faeaf0 => (16, 0xd7572f4d1fa659ba) ∷
    row 273 0xf28c6e97 => (23, 0x1fe2070c3346374) ∷
    row 274 0xf2bdfbe8 => (8, 0x9ad4d2a1efdf5e60) ∷
    row 275 0xf2d4b23c => (28, 0xebe5a591c99dd499) ∷
    row 276 0xf2ee98e7 => (7, 0x74c757db197dd7c5) ∷
    row 277 0xf299acf0 => (16, 0x39e5331eef05cd67) ∷
    row 278 0xf2a4ab9d => (29, 0xddb73cd1255c6dcc) ∷
    row 279 0xf2c1372a => (10, 0x78e009b9fe9b893f) ∷
    row 280 0xf2ef8c0b => (11, 0x7c6092b28ca8cf69) ∷
    []) ∷
    -- nop
    group 0x0 (
    row 281 0xd503201f ∷
    row 282 0xd503201f ∷
    row 283 0xd503201f ∷
    row 284 0xd503201f ∷
    []) ∷
    -- blr
    group 0x0 (
    row 285 0xd63f0120 with (9, 0xd1696e7d560) => (30, 0x70002f5ac0dc) => (pc, 0xd1696e7d560) ∷
    row 286 0xd63f0300 with (24, 0x3a8783693504) => (30, 0x7000a535752c) => (pc, 0x3a8783693504) ∷
    row 287 0xd63f03c0 with (30, 0x3b92c2e286d4) => (30, 0x700089b38a14) => (pc, 0x3b92c2e286d4) ∷
    row 288 0xd63f02a0 with (21, 0x3755a60a2240) => (30, 0x7000dcd4ff9c) => (pc, 0x3755a60a2240) ∷
    row 289 0xd63f0280 with (20, 0x16cc85da014c) => (30, 0x70009e99d5c4) => (pc, 0x16cc85da014c) ∷
    row 290 0xd63f0060 with (3, 0x35b694a67a54) => (30, 0x7000cf020c84) => (pc, 0x35b694a67a54) ∷
    row 291 0xd63f0000 with (0, 0x1435a85652a4) => (30, 0x70006e0da3e4) => (pc, 0x1435a85652a4) ∷
    row 292 0xd63f02a0 with (21, 0x3f534a0fbeb8) => (30, 0x70007bbc9be0) => (pc, 0x3f534a0fbeb8) ∷
    row 293 0xd63f02a0 with (21, 0x236c7f7fdad0) => (30, 0x7000f80ef478) => (pc, 0x236c7f7fdad0) ∷
    row 294 0xd63f0120 with (9, 0x13e13b164bdc) => (30, 0x7000e304adb0) => (pc, 0x13e13b164bdc) ∷
    row 295 0xd63f02e0 with (23, 0x16c7fd1e44) => (30, 0x70003c9dc784) => (pc, 0x16c7fd1e44) ∷
    row 296 0xd63f03c0 with (30, 0x1dd9c99c07d4) => (30, 0x700004da41f4) => (pc, 0x1dd9c99c07d4) ∷
    row 297 0xd63f03a0 with (29, 0x21b07c7980d8) => (30, 0x70003bba1d04) => (pc, 0x21b07c7980d8) ∷
    row 298 0xd63f0380 with (28, 0x3a007c941ff4) => (30, 0x7000e13d58ac) => (pc, 0x3a007c941ff4) ∷
    row 299 0xd63f02c0 with (22, 0xaec19a416bc) => (30, 0x7000f563f4f4) => (pc, 0xaec19a416bc) ∷
    row 300 0xd63f0080 with (4, 0x22106b59c4c0) => (30, 0x7000782df1d8) => (pc, 0x22106b59c4c0) ∷
    row 301 0xd63f0260 with (19, 0x3d36b3fbff8c) => (30, 0x7000699b4f5c) => (pc, 0x3d36b3fbff8c) ∷
    row 302 0xd63f00e0 with (7, 0x20b5dcd49d0) => (30, 0x7000c9ac0d7c) => (pc, 0x20b5dcd49d0) ∷
    row 303 0xd63f0100 with (8, 0x1b94fd0172d0) => (30, 0x700098602c38) => (pc, 0x1b94fd0172d0) ∷
    row 304 0xd63f0380 with (28, 0xf976b0f7f4) => (30, 0x7000d5b7ab90) => (pc, 0xf976b0f7f4) ∷
    row 305 0xd63f0320 with (25, 0x279674940a7c) => (30, 0x700081b28b88) => (pc, 0x279674940a7c) ∷
    row 306 0xd63f0040 with (2, 0x3de06464b5b4) => (30, 0x70009c50cc1c) => (pc, 0x3de06464b5b4) ∷
    row 307 0xd63f0220 with (17, 0x3d0e5fb30830) => (30, 0x700025926d4c) => (pc, 0x3d0e5fb30830) ∷
    row 308 0xd63f0300 with (24, 0x36ce978f46ec) => (30, 0x70001d776f18) => (pc, 0x36ce978f46ec) ∷
    row 309 0xd63f03c0 with (30, 0x31a6b21b1758) => (30, 0x700083ffd184) => (pc, 0x31a6b21b1758) ∷
    row 310 0xd63f0020 with (1, 0x15eff6e8111c) => (30, 0x7000592b948c) => (pc, 0x15eff6e8111c) ∷
    row 311 0xd63f01c0 with (14, 0x3c78fbebd1f0) => (30, 0x70009cfab830) => (pc, 0x3c78fbebd1f0) ∷
    row 312 0xd63f0040 with (2, 0x4fe51485540) => (30, 0x70004f6d3c70) => (pc, 0x4fe51485540) ∷
    row 313 0xd63f03a0 with (29, 0x21c3bed5a280) => (30, 0x700070832150) => (pc, 0x21c3bed5a280) ∷
    row 314 0xd63f0020 with (1, 0x39b122c5ff1c) => (30, 0x7000003c66cc) => (pc, 0x39b122c5ff1c) ∷
    row 315 0xd63f0340 with (26, 0x35ba7ae028d8) => (30, 0x7000fe990ce8) => (pc, 0x35ba7ae028d8) ∷
    row 316 0xd63f0300 with (24, 0x3299a1a6313c) => (30, 0x70006b99139c) => (pc, 0x3299a1a6313c) ∷
    row 317 0xd63f0180 with (12, 0x1b657e1e9e38) => (30, 0x7000473c7af0) => (pc, 0x1b657e1e9e38) ∷
    row 318 0xd63f02c0 with (22, 0x3616d17c6e50) => (30, 0x7000918342e0) => (pc, 0x3616d17c6e50) ∷
    row 319 0xd63f0060 with (3, 0x21a81c68accc) => (30, 0x70004a6d6b6c) => (pc, 0x21a81c68accc) ∷
    row 320 0xd63f01c0 with (14, 0x19536866a360) => (30, 0x700071faf498) => (pc, 0x19536866a360) ∷
    row 321 0xd63f0320 with (25, 0xfa04a90eb48) => (30, 0x7000082bde60) => (pc, 0xfa04a90eb48) ∷
    row 322 0xd63f0080 with (4, 0x2359b58c7c44) => (30, 0x70000d0028c4) => (pc, 0x2359b58c7c44) ∷
    row 323 0xd63f0140 with (10, 0x3bc61e8418f0) => (30, 0x70008077d3c8) => (pc, 0x3bc61e8418f0) ∷
    row 324 0xd63f02c0 with (22, 0x3b22e26ca040) => (30, 0x70006292df68) => (pc, 0x3b22e26ca040) ∷
    []) ∷
    -- bl
    group 0x0 (
    row 325 0x94000000 => (30, 0x7000b3514ba4) => (pc, 0x7000b3514ba0) ∷
    row 326 0x97ffffff => (30, 0x700072b3187c) => (pc, 0x700072b31874) ∷
    row 327 0x94000001 => (30, 0x7000a0b845f0) ∷
    row 328 0x96000000 => (30, 0x70003d60d404) => (pc, 0x70003560d400) ∷
    row 329 0x95ffffff => (30, 0x700048acc2b4) => (pc, 0x700050acc2ac) ∷
    row 330 0x97ffffff => (30, 0x7000c29c1204) => (pc, 0x7000c29c11fc) ∷
    row 331 0x94000001 => (30, 0x7000ab2ec1ec) ∷
    row 332 0x96000000 => (30, 0x70000264d274) => (pc, 0x6ffffa64d270) ∷
    row 333 0x95ffffff => (30, 0x7000c83e4398) => (pc, 0x7000d03e4390) ∷
    row 334 0x94000000 => (30, 0x7000fcbb155c) => (pc, 0x7000fcbb1558) ∷
    row 335 0x94000001 => (30, 0x70009fdb47bc) ∷
    row 336 0x96000000 => (30, 0x7000b19edab8) => (pc, 0x7000a99edab4) ∷
    row 337 0x95ffffff => (30, 0x70003205ce50) => (pc, 0x70003a05ce48) ∷
    row 338 0x94000000 => (30, 0x700021102288) => (pc, 0x700021102284) ∷
    row 339 0x97ffffff => (30, 0x70007ebdd758) => (pc, 0x70007ebdd750) ∷
    row 340 0x96000000 => (30, 0x70004b0eecc8) => (pc, 0x7000430eecc4) ∷
    row 341 0x95ffffff => (30, 0x7000860362d8) => (pc, 0x70008e0362d0) ∷
    row 342 0x94000000 => (30, 0x70002f9b3980) => (pc, 0x70002f9b397c) ∷
    row 343 0x97ffffff => (30, 0x700047d670c8) => (pc, 0x700047d670c0) ∷
    row 344 0x94000001 => (30, 0x7000ceb508ac) ∷
    row 345 0x97637650 => (30, 0x7000c4370130) => (pc, 0x7000c1c4da6c) ∷
    row 346 0x94e6affa => (30, 0x7000285c5a50) => (pc, 0x70002bf71a34) ∷
    row 347 0x94aecef9 => (30, 0x7000fb25140c) => (pc, 0x7000fde04fec) ∷
    row 348 0x9782e05d => (30, 0x70003c912e64) => (pc, 0x70003a9cafd4) ∷
    row 349 0x95f4d63c => (30, 0x7000eca0a958) => (pc, 0x7000f4740244) ∷
    row 350 0x95d5360e => (30, 0x70000b5384ec) => (pc, 0x700012a85d20) ∷
    row 351 0x959168db => (30, 0x700098a9c11c) => (pc, 0x70009eef6484) ∷
    row 352 0x961d026e => (30, 0x700094a35dec) => (pc, 0x70008d1767a0) ∷
    row 353 0x961e6b8d => (30, 0x7000ff405b54) => (pc, 0x7000f7ba0984) ∷
    row 354 0x951070f9 => (30, 0x7000d880b95c) => (pc, 0x7000dcc27d3c) ∷
    row 355 0x961a43d2 => (30, 0x700020647800) => (pc, 0x700018cd8744) ∷
    row 356 0x97d9ee66 => (30, 0x7000d6eb9744) => (pc, 0x7000d65350d8) ∷
    row 357 0x9651c367 => (30, 0x7000fc161720) => (pc, 0x7000f55d24b8) ∷
    row 358 0x95d89004 => (30, 0x70008fe3f79c) => (pc, 0x7000974637a8) ∷
    row 359 0x97288e85 => (30, 0x7000925538b8) => (pc, 0x70008ef772c8) ∷
    row 360 0x95b19754 => (30, 0x70000369da6c) => (pc, 0x70000a3037b8) ∷
    row 361 0x9618c59d => (30, 0x7000e321dcc0) => (pc, 0x7000db84f330) ∷
    row 362 0x972d281e => (30, 0x7000317d3fb0) => (pc, 0x70002e31e024) ∷
    row 363 0x94b57755 => (30, 0x7000ee7c033c) => (pc, 0x7000f151e08c) ∷
    row 364 0x97f2db89 => (30, 0x70001a1e2768) => (pc, 0x700019e99588) ∷
    []) ∷
    -- b
    group 0x0 (
    row 365 0x14000000 => (pc, 0x7000b463ac2c) ∷
    row 366 0x17ffffff => (pc, 0x7000bd4c918c) ∷
    row 367 0x14000001 ∷
    row 368 0x16000000 => (pc, 0x700013087e30) ∷
    row 369 0x15ffffff => (pc, 0x700077db8568) ∷
    row 370 0x17ffffff => (pc, 0x70003351ed40) ∷
    row 371 0x14000001 ∷
    row 372 0x16000000 => (pc, 0x6ffffe28ded0) ∷
    row 373 0x15ffffff => (pc, 0x70001d89687c) ∷
    row 374 0x14000000 => (pc, 0x7000938d52cc) ∷
    row 375 0x14000001 ∷
    row 376 0x16000000 => (pc, 0x7000d37f493c) ∷
    row 377 0x15ffffff => (pc, 0x7000ad6d555c) ∷
    row 378 0x14000000 => (pc, 0x7000ddfec224) ∷
    row 379 0x17ffffff => (pc, 0x700085338f80) ∷
    row 380 0x16000000 => (pc, 0x7000930bbd7c) ∷
    row 381 0x15ffffff => (pc, 0x700027874c14) ∷
    row 382 0x14000000 => (pc, 0x700012a63b4c) ∷
    row 383 0x17ffffff => (pc, 0x700074688b1c) ∷
    row 384 0x14000001 ∷
    row 385 0x16f7ac81 => (pc, 0x70007fb5fea0) ∷
    row 386 0x14decd96 => (pc, 0x700034fef4a0) ∷
    row 387 0x16078e49 => (pc, 0x700045f1c9b4) ∷
    row 388 0x144679ff => (pc, 0x7000d9e0ab70) ∷
    row 389 0x1589731f => (pc, 0x7000d8832370) ∷
    row 390 0x1639b61a => (pc, 0x7000337e237c) ∷
    row 391 0x17d24f20 => (pc, 0x700010bddc50) ∷
    row 392 0x159eb99c => (pc, 0x70005d703b98) ∷
    row 393 0x15d1b243 => (pc, 0x700012603428) ∷
    row 394 0x17c69c8e => (pc, 0x70002cfb53e8) ∷
    row 395 0x16936265 => (pc, 0x7000b9994274) ∷
    row 396 0x17107236 => (pc, 0x7000bb9bb984) ∷
    row 397 0x163ad009 => (pc, 0x700026f6c93c) ∷
    row 398 0x14927933 => (pc, 0x70000daa66ec) ∷
    row 399 0x15fc5e6d => (pc, 0x70005f4a5578) ∷
    row 400 0x14072168 => (pc, 0x700012111ba4) ∷
    row 401 0x176c3531 => (pc, 0x700038e485a8) ∷
    row 402 0x1577d03e => (pc, 0x7000d8f56d58) ∷
    row 403 0x1579ed04 => (pc, 0x7000df83bc88) ∷
    row 404 0x162ef611 => (pc, 0x700047811d70) ∷
    []) ∷
    -- br
    group 0x0 (
    row 405 0xd61f01c0 with (14, 0x17cee5a0bff0) => (pc, 0x17cee5a0bff0) ∷
    row 406 0xd61f0040 with (2, 0x22698dfbec8) => (pc, 0x22698dfbec8) ∷
    row 407 0xd61f0060 with (3, 0x3022d89e55f4) => (pc, 0x3022d89e55f4) ∷
    row 408 0xd61f0100 with (8, 0x1ca92c5dfac4) => (pc, 0x1ca92c5dfac4) ∷
    row 409 0xd61f00c0 with (6, 0xcaf8b868438) => (pc, 0xcaf8b868438) ∷
    row 410 0xd61f02a0 with (21, 0xd562528d06c) => (pc, 0xd562528d06c) ∷
    row 411 0xd61f0260 with (19, 0x18a3f63677fc) => (pc, 0x18a3f63677fc) ∷
    row 412 0xd61f0160 with (11, 0xc9fad020374) => (pc, 0xc9fad020374) ∷
    row 413 0xd61f00e0 with (7, 0x163d37a937cc) => (pc, 0x163d37a937cc) ∷
    row 414 0xd61f03a0 with (29, 0x3c0af6980ad4) => (pc, 0x3c0af6980ad4) ∷
    row 415 0xd61f0200 with (16, 0x2830468eefb4) => (pc, 0x2830468eefb4) ∷
    row 416 0xd61f02c0 with (22, 0x5a74ccf060) => (pc, 0x5a74ccf060) ∷
    row 417 0xd61f0360 with (27, 0x141577084e4c) => (pc, 0x141577084e4c) ∷
    row 418 0xd61f0200 with (16, 0x3be8bf3e944) => (pc, 0x3be8bf3e944) ∷
    row 419 0xd61f0340 with (26, 0x152be274d2d4) => (pc, 0x152be274d2d4) ∷
    row 420 0xd61f0220 with (17, 0x123cb6e32680) => (pc, 0x123cb6e32680) ∷
    row 421 0xd61f0060 with (3, 0x22c02dbbab18) => (pc, 0x22c02dbbab18) ∷
    row 422 0xd61f0000 with (0, 0x2a381485f1d4) => (pc, 0x2a381485f1d4) ∷
    row 423 0xd61f01e0 with (15, 0x2eaa66c56578) => (pc, 0x2eaa66c56578) ∷
    row 424 0xd61f02e0 with (23, 0x3c534601d530) => (pc, 0x3c534601d530) ∷
    row 425 0xd61f0240 with (18, 0x2590078fd230) => (pc, 0x2590078fd230) ∷
    row 426 0xd61f00e0 with (7, 0x24b0a13087bc) => (pc, 0x24b0a13087bc) ∷
    row 427 0xd61f0180 with (12, 0x357557dc164c) => (pc, 0x357557dc164c) ∷
    row 428 0xd61f0200 with (16, 0x68e4add7344) => (pc, 0x68e4add7344) ∷
    row 429 0xd61f00c0 with (6, 0x29621e38ccb0) => (pc, 0x29621e38ccb0) ∷
    row 430 0xd61f0200 with (16, 0x5abecf3db2c) => (pc, 0x5abecf3db2c) ∷
    row 431 0xd61f01e0 with (15, 0x62e9c5bb4e0) => (pc, 0x62e9c5bb4e0) ∷
    row 432 0xd61f01a0 with (13, 0x30f65e6d4e70) => (pc, 0x30f65e6d4e70) ∷
    row 433 0xd61f01e0 with (15, 0xc8ede3b9938) => (pc, 0xc8ede3b9938) ∷
    row 434 0xd61f0240 with (18, 0xf550133b9dc) => (pc, 0xf550133b9dc) ∷
    row 435 0xd61f02a0 with (21, 0x141611bb7c90) => (pc, 0x141611bb7c90) ∷
    row 436 0xd61f0080 with (4, 0xc709d960b2c) => (pc, 0xc709d960b2c) ∷
    row 437 0xd61f0040 with (2, 0xaed1aa6c9b8) => (pc, 0xaed1aa6c9b8) ∷
    row 438 0xd61f0160 with (11, 0x31811b895c) => (pc, 0x31811b895c) ∷
    row 439 0xd61f03a0 with (29, 0x1d435462c1a0) => (pc, 0x1d435462c1a0) ∷
    row 440 0xd61f03c0 with (30, 0xfbbcef09ca0) => (pc, 0xfbbcef09ca0) ∷
    row 441 0xd61f0080 with (4, 0x93075ef4284) => (pc, 0x93075ef4284) ∷
    row 442 0xd61f0060 with (3, 0x2f850c2aa33c) => (pc, 0x2f850c2aa33c) ∷
    row 443 0xd61f0000 with (0, 0x296d98c29798) => (pc, 0x296d98c29798) ∷
    row 444 0xd61f0160 with (11, 0x341830cbc3d4) => (pc, 0x341830cbc3d4) ∷
    []) ∷
    -- stp
    group 0x0 (
    row 445 0xa98069fc with (15, 0x600014eb92dd) => (m1, 0xcaa17a032a4373fd)
    => (m2, 0x6aca33337f881ee6) ∷
    row 446 0xa9bff355 with (26, 0x600032c5015c) => (26, 0x600032c50154) => (m1, 0x215bc6f1d1acd04d)
    => (m2, 0x26f1f136c9e13f8) ∷
    row 447 0xa98081a6 with (13, 0x60002c4747eb) => (13, 0x60002c4747f3) => (m1, 0x6b012f24f0f8a41b)
    => (m2, 0x95ef6e15915649b0) ∷
    row 448 0xa9804422 with (1, 0x6000017266b8) => (m1, 0x8fddec893ab8ce31)
    => (m2, 0x72dd500e70723db4) ∷
    row 449 0xa9bfd832 with (1, 0x600032465dad) => (1, 0x600032465da5) => (m1, 0x1c797cc21c3a4c04)
    => (m2, 0x5ef18e834e6b7d3b) ∷
    row 450 0xa980eab4 with (21, 0x60003ec32cb1) => (21, 0x60003ec32cb9) => (m1, 0xac9449d80085e725)
    => (m2, 0x8d70ebb5117e8) ∷
    row 451 0xa9805175 with (11, 0x600026e8d3f5) => (m1, 0x93d88b68bc4e84f6)
    => (m2, 0x36af24ed64f7924) ∷
    row 452 0xa9805692 with (20, 0x60002ab75357) => (m1, 0x9bf9611dd4710cef)
    => (m2, 0xb6bf3945e49c97f5) ∷
    row 453 0xa98080bc with (5, 0x60000a2eaad9) => (5, 0x60000a2eaae1) => (m1, 0xbe868de543901825)
    => (m2, 0x4d7eb7aa4a1e07e1) ∷
    row 454 0xa9802a35 with (17, 0x6000054eda92) => (m1, 0x97a69af2c8334667)
    => (m2, 0x303ee10f5e7631c5) ∷
    row 455 0xa9800cfe with (7, 0x60001c17e26b) => (m1, 0xc13c66d4b03ba755)
    => (m2, 0xcb8c88542fced82c) ∷
    row 456 0xa9bf9a3f with (17, 0x60000e89c272) => (17, 0x60000e89c26a) => (m1, 0)
    => (m2, 0x53c52a7ade1450e) ∷
    row 457 0xa9801d75 with (11, 0x60001ca47a91) => (m1, 0xaa8161aa8d07a139)
    => (m2, 0x2e9634111041a9ce) ∷
    row 458 0xa98076a8 with (21, 0x600006680ae0) => (m1, 0x67130a459379140e)
    => (m2, 0x1f9fa6b05806f6bd) ∷
    row 459 0xa9bf91b1 with (13, 0x60000bd4735d) => (13, 0x60000bd47355) => (m1, 0x9d5c2ed59e8e9cda)
    => (m2, 0x7dab39f911b9f717) ∷
    row 460 0xa980a64d with (18, 0x60002ce9b3ea) => (18, 0x60002ce9b3f2) => (m1, 0xf3675d7afe0bc085)
    => (m2, 0xfc16389aad06de5) ∷
    row 461 0xa98002fd with (23, 0x600029a7ccb6) => (m1, 0x723c395d8d5d47aa)
    => (m2, 0x5ebf991b4d6cf8b8) ∷
    row 462 0xa9bfadc2 with (14, 0x6000020ebda9) => (14, 0x6000020ebda1) => (m1, 0x5b57d067fa11c703)
    => (m2, 0xb3e59618fa7b5fe7) ∷
    row 463 0xa9809dff with (15, 0x6000361e86ac) => (15, 0x6000361e86b4) => (m1, 0)
    => (m2, 0x6ab67caec4a5c4a9) ∷
    row 464 0xa9804334 with (25, 0x600005d727ee) => (m1, 0x6a99d5d7c690b90a)
    => (m2, 0xa8967671749ad270) ∷
    row 465 0xa9ad5a8e with (20, 0x60003138a27f) => (20, 0x60003138a14f) => (m1, 0x89d930ec6848742c)
    => (m2, 0xd53ab664c3118820) ∷
    row 466 0xa9aaafe5 with (31, 0x60003842f420) with (at, 0x60003842f2c0) => (31, 0x60003842f2c8)
    => (m1, 0x33dc02362fa3950) => (m2, 0xe4f006fdf05b81c5) ∷
    row 467 0xa9bbb6d7 with (22, 0x60001af61ccf) => (22, 0x60001af61c87) => (m1, 0xad3311c6e62ccce7)
    => (m2, 0xdc31597f2b884312) ∷
    row 468 0xa98eb8c4 with (6, 0x600019521d76) => (6, 0x600019521e5e) => (m1, 0x53aadc2e1e6be969)
    => (m2, 0xb1157e5fbddbd253) ∷
    row 469 0xa9a66d23 with (9, 0x60003356f9fc) => (9, 0x60003356f85c) => (m1, 0x3851f5df85cdcbd9)
    => (m2, 0xdb8b08028f1a9148) ∷
    row 470 0xa9af27c3 with (30, 0x60002904ab92) => (30, 0x60002904aa82) => (m1, 0x1743aa51c4893267)
    => (m2, 0xca2ed5735cf00336) ∷
    row 471 0xa9a1976f with (27, 0x60003a5b36b7) => (27, 0x60003a5b34cf) => (m1, 0x55119631eebde09b)
    => (m2, 0x53c00df2f6eb99c4) ∷
    row 472 0xa9ae9dc0 with (14, 0x6000275a985b) => (14, 0x6000275a9743) => (m1, 0x9c83d61b5c65bfe9)
    => (m2, 0xd6b0b4c3e40eb4c) ∷
    row 473 0xa9b2484f with (2, 0x60003002d2be) => (2, 0x60003002d1de) => (m1, 0xebb5401bdb18bac0)
    => (m2, 0x85a75ab818251a07) ∷
    row 474 0xa9a15035 with (1, 0x60001453e691) => (1, 0x60001453e4a1) => (m1, 0xc6a264a712fd89d)
    => (m2, 0xcc1ee3c8dd74a15f) ∷
    row 475 0xa9964f06 with (24, 0x6000144dce2a) => (24, 0x6000144dcf8a) => (m1, 0x41fe134296924e16)
    => (m2, 0x11d39a8c97f2729f) ∷
    row 476 0xa99b04ac with (5, 0x60002ff090ec) => (5, 0x60002ff0929c) => (m1, 0x2ff451dad57bc12c)
    => (m2, 0xb5dec51e3100281) ∷
    row 477 0xa995de42 with (18, 0x6000273c2c7c) => (18, 0x6000273c2dd4) => (m1, 0x6403a351b02de4b0)
    => (m2, 0xa3ccfc95a897d32a) ∷
    row 478 0xa9a82bbb with (29, 0x60003a30a2b4) => (29, 0x60003a30a134) => (m1, 0x9e026651f0c60830)
    => (m2, 0x934e3a9f2cc7b013) ∷
    row 479 0xa992ab1d with (24, 0x600028cdeb93) => (24, 0x600028cdecbb) => (m1, 0xfe86cc6af90ac235)
    => (m2, 0xeb649cd364744dec) ∷
    row 480 0xa99d8730 with (25, 0x600033140e91) => (25, 0x600033141069) => (m1, 0xf5076078452c3118)
    => (m2, 0x150a5454538d0b30) ∷
    row 481 0xa9b00fd3 with (30, 0x600019030d3e) => (30, 0x600019030c3e) => (m1, 0x2f17ec5a65593ad6)
    => (m2, 0xc0b1f069181e54a5) ∷
    row 482 0xa9800de1 with (15, 0x60001a9ae03b) => (m1, 0xc859591eb1c0a073)
    => (m2, 0xd0ef00efa2c3dd0a) ∷
    row 483 0xa985ab26 with (25, 0x600037db8c07) => (25, 0x600037db8c5f) => (m1, 0x855199e0e7258275)
    => (m2, 0xda0b0d00d7bf36d8) ∷
    row 484 0xa9a8dd70 with (11, 0x600030c51222) => (11, 0x600030c510aa) => (m1, 0x5f6cbc3c4bb24ee5)
    => (m2, 0x9abd87b871a0fb14) ∷
    []) ∷
    -- bti
    group 0x0 (
    row 485 0xd503245f ∷
    row 486 0xd503245f ∷
    row 487 0xd503245f ∷
    row 488 0xd503245f ∷
    []) ∷
    []
