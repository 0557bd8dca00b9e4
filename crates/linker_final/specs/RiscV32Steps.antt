-- What the emulator unicorn 2.0.1 made of instructions. `tools/oracle steps` makes this file.
use Rattle.std.specs.Prelude.{List, [], ◌∷◌}
use Rattle.linker_final.specs.Steps.{Group, group, pc, row, ◌=>◌, ◌with◌}

unfoldable pub riscv32_groups : List Group
riscv32_groups =
    -- lui
    group 0x0 (
    row 1 0x7ffff037 ∷
    row 2 0x00001837 => (16, 0x1000) ∷
    row 3 0x00000b37 => (22, 0) ∷
    row 4 0xfffff3b7 => (7, 0xfffff000) ∷
    row 5 0x80000d37 => (26, 0x80000000) ∷
    row 6 0x38f53737 => (14, 0x38f53000) ∷
    row 7 0xbcc18a37 => (20, 0xbcc18000) ∷
    row 8 0x25bfd437 => (8, 0x25bfd000) ∷
    row 9 0xf3ad1537 => (10, 0xf3ad1000) ∷
    row 10 0x9ec39cb7 => (25, 0x9ec39000) ∷
    []) ∷
    -- auipc
    group 0x0 (
    row 11 0x7ffff997 => (19, 0xb09889c0) ∷
    row 12 0x00001a17 => (20, 0x36174fd8) ∷
    row 13 0x00000997 => (19, 0x32e7963c) ∷
    row 14 0xfffff617 => (12, 0x37098cf0) ∷
    row 15 0x80000c97 => (25, 0xb27d53f2) ∷
    row 16 0x9a722817 => (16, 0xcfb4db42) ∷
    row 17 0x2a5d9597 => (11, 0x61b762e0) ∷
    row 18 0x3667a897 => (17, 0x672a3ace) ∷
    row 19 0xf11e6217 => (4, 0x229b730a) ∷
    row 20 0x26a73b17 => (22, 0x58306b94) ∷
    []) ∷
    -- jal
    group 0x0 (
    row 21 0x7fdff26f with (pc, 0x30e7146c) => (4, 0x30e71470) => (pc, 0x30f71468) ∷
    row 22 0x00001eef with (pc, 0x37969d94) => (29, 0x37969d98) => (pc, 0x3796ad94) ∷
    row 23 0x00000f6f => (30, 0x3597d710) => (pc, 0x3597d70c) ∷
    row 24 0xffdffe6f => (28, 0x32eac0d4) => (pc, 0x32eac0cc) ∷
    row 25 0x800006ef => (13, 0x378f5ae8) => (pc, 0x377f5ae4) ∷
    row 26 0x1702936f with (pc, 0x3385a544) => (6, 0x3385a548) => (pc, 0x338836b4) ∷
    row 27 0xb755446f with (pc, 0x36cd9ff4) => (8, 0x36cd9ff8) => (pc, 0x36c2eb68) ∷
    row 28 0xfc9093ef => (7, 0x31674af8) => (pc, 0x3157eabc) ∷
    row 29 0x1ec400ef with (pc, 0x3352a640) => (1, 0x3352a644) => (pc, 0x3356a82c) ∷
    row 30 0xe7d81cef with (pc, 0x348fb1dc) => (25, 0x348fb1e0) => (pc, 0x3487d058) ∷
    []) ∷
    -- addi
    group 0x0 (
    row 31 0x80068693 with (13, 0x7fffffff) => (13, 0x7ffff7ff) ∷
    row 32 0x00188313 with (17, 0x80000000) => (6, 0x80000001) ∷
    row 33 0x00050a93 with (10, 0xffffffff) => (21, 0xffffffff) ∷
    row 34 0xfffe0013 with (28, 0x80000000) ∷
    row 35 0x7ffd8e13 with (27, 0x7fffffff) => (28, 0x800007fe) ∷
    row 36 0x364f8e13 => (28, 0xd38e7f80) ∷
    row 37 0xb3410793 => (15, 0x5f627602) ∷
    row 38 0x88a40313 => (6, 0x95e58d15) ∷
    row 39 0x1dd10b93 => (23, 0x70f14bb4) ∷
    row 40 0x6d440a93 => (21, 0xf11204d9) ∷
    []) ∷
    -- jalr
    group 0x0 (
    row 41 0x800907e7 with (18, 0x3c65f38c) => (15, 0x353ea5d6) => (pc, 0x3c65eb8c) ∷
    row 42 0x001a0a67 with (20, 0x4448c988) => (20, 0x364ff520) => (pc, 0x4448c988) ∷
    row 43 0x000f8be7 with (31, 0x74a46a6a) => (23, 0x36b2f4ba) => (pc, 0x74a46a6a) ∷
    row 44 0xfff28ee7 with (5, 0xa14994d9) => (29, 0x3667a4a0) => (pc, 0xa14994d8) ∷
    row 45 0x7ffc0767 with (24, 0x1a7624ee) => (14, 0x356e04d6) => (pc, 0x1a762cec) ∷
    row 46 0xf8fd83e7 with (27, 0x11226165) => (7, 0x33c6155c) => (pc, 0x112260f4) ∷
    row 47 0xed168c67 with (13, 0x1b998ad0) => (24, 0x316fd62e) => (pc, 0x1b9989a0) ∷
    row 48 0x9a5d8367 with (27, 0x84a601c2) => (6, 0x366b4750) => (pc, 0x84a5fb66) ∷
    row 49 0x9c4f05e7 with (30, 0x21a0be18) => (11, 0x32b868c0) => (pc, 0x21a0b7dc) ∷
    row 50 0x264c04e7 with (24, 0x65f3e1b3) => (9, 0x36573a80) => (pc, 0x65f3e416) ∷
    []) ∷
    -- add
    group 0x0 (
    row 51 0x01a389b3 with (7, 0x7fffffff) => (19, 0x83f0a808) ∷
    row 52 0x009785b3 with (15, 0x80000000) => (11, 0x3393fac4) ∷
    row 53 0x00ca8d33 with (21, 0xffffffff) => (26, 0x2fb23f1) ∷
    row 54 0x00978e33 with (15, 0x80000000) => (28, 0x82ef5a3a) ∷
    row 55 0x01658cb3 with (11, 0x7fffffff) => (25, 0xc3a8c74a) ∷
    row 56 0x00848333 => (6, 0x1a5cfa35) ∷
    row 57 0x01260fb3 => (31, 0xabc5e693) ∷
    row 58 0x010b81b3 => (3, 0x495a1256) ∷
    row 59 0x01580833 => (16, 0xf74e008f) ∷
    row 60 0x01cb8633 => (12, 0x7c4c2e73) ∷
    []) ∷
    -- c.j
    group 0x0 (
    row 61 0xbf0d => (pc, 0x3139b120) ∷
    row 62 0xbc75 => (pc, 0x34acc218) ∷
    row 63 0xa0d5 => (pc, 0x37718dfc) ∷
    row 64 0xa3f9 => (pc, 0x318808f0) ∷
    row 65 0xbaed => (pc, 0x32f02376) ∷
    row 66 0xb3f1 => (pc, 0x33a9fdf0) ∷
    row 67 0xa865 => (pc, 0x33b587d2) ∷
    row 68 0xaded => (pc, 0x3312c558) ∷
    row 69 0xad99 => (pc, 0x31c1ac46) ∷
    row 70 0xa575 => (pc, 0x37c2447e) ∷
    []) ∷
    -- c.jal
    group 0x0 (
    row 71 0x2739 => (1, 0x35148604) => (pc, 0x35148d10) ∷
    row 72 0x2aed => (1, 0x31b87e84) => (pc, 0x31b8807c) ∷
    row 73 0x22f1 => (1, 0x35ae2750) => (pc, 0x35ae291a) ∷
    row 74 0x2059 => (1, 0x30f5806c) => (pc, 0x30f580f0) ∷
    row 75 0x3be5 => (1, 0x338e89d8) => (pc, 0x338e87ce) ∷
    row 76 0x2fb1 => (1, 0x35794390) => (pc, 0x35794aea) ∷
    row 77 0x3cb9 => (1, 0x36b5ad98) => (pc, 0x36b5a7f4) ∷
    row 78 0x2a0d => (1, 0x3743c7ee) => (pc, 0x3743c91e) ∷
    row 79 0x3e99 => (1, 0x37239292) => (pc, 0x37238de6) ∷
    row 80 0x2a61 => (1, 0x36550d86) => (pc, 0x36550f1c) ∷
    []) ∷
    -- c.lui
    group 0x0 (
    row 81 0x6cd1 => (25, 0x14000) ∷
    row 82 0x7e19 => (28, 0xfffe6000) ∷
    row 83 0x6cd1 => (25, 0x14000) ∷
    row 84 0x74c1 => (9, 0xffff0000) ∷
    row 85 0x7d7d => (26, 0xfffff000) ∷
    row 86 0x6859 => (16, 0x16000) ∷
    row 87 0x78d1 => (17, 0xffff4000) ∷
    row 88 0x6505 => (10, 0x1000) ∷
    row 89 0x7de9 => (27, 0xffffa000) ∷
    row 90 0x7931 => (18, 0xfffec000) ∷
    []) ∷
    -- c.li
    group 0x0 (
    row 91 0x42fd => (5, 0x1f) ∷
    row 92 0x4c05 => (24, 1) ∷
    row 93 0x4c01 => (24, 0) ∷
    row 94 0x597d => (18, 0xffffffff) ∷
    row 95 0x5281 => (5, 0xffffffe0) ∷
    row 96 0x46d9 => (13, 0x16) ∷
    row 97 0x4d55 => (26, 0x15) ∷
    row 98 0x5779 => (14, 0xfffffffe) ∷
    row 99 0x49d1 => (19, 0x14) ∷
    row 100 0x4ef1 => (29, 0x1c) ∷
    []) ∷
    []
