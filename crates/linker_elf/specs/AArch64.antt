-- AArch64: its instruction forms (Arm Architecture Reference Manual for A-profile, DDI 0487, C6.2
-- and C7.2), its rewrites and the moves that load an address.
use Rattle.linker_elf.specs.Imports.{AArch64Instruction, Add, Adr, Bcond, Form, ImmediateBit}
use Rattle.linker_elf.specs.Imports.{JumpCall, Layout, LdSt, Ldr, LdrRegister, MachOLow12, Movkz}
use Rattle.linker_elf.specs.Imports.{Movnz, Sign, TstBr, bit_at, bits_to, exactly, field, form_of}
use Rattle.linker_elf.specs.Imports.{modulo, one_field, or_bits_to, own_form, place_sum}
use Rattle.linker_elf.specs.Imports.{twos_complement, unsigned, w32}
use Rattle.std.specs.Prelude.{Bool, List, [], false, nat_lt, negsuc, not, pos, true, ℕ, ℤ, ◌∷◌, ◌+◌}
use Rattle.std.specs.Prelude.{◌-◌, ◌*◌, ◌/◌, ◌%◌, ◌^◌, ◌&&◌, ◌||◌, ◌==◌, if◌then◌else◌, ◌++◌}

-- ---- moves of 16 bits

-- bits 23 and up: MOVN, MOVZ and MOVK of 64 bits
abbrev pub movn_opcode : ℕ
movn_opcode = 0x125

abbrev pub movz_opcode : ℕ
movz_opcode = 0x1a5

abbrev pub movk_opcode : ℕ
movk_opcode = 0x1e5

abbrev pub opcode_of : ℕ → ℕ
opcode_of word = word / 2 ^ 23

-- the opcode of a move of a negative value, and of any other
abbrev pub move_opcode : Bool → ℕ
move_opcode negative = if negative then movn_opcode else movz_opcode

-- how far up the 16 bits go
abbrev pub shift_of : ℕ → ℕ
shift_of word = 16 * field word 21 23

abbrev pub imm16_places : List ImmediateBit
imm16_places = bits_to 0 15 5

-- the 16 bits, for a negative value complemented
abbrev pub moved_bits : Bool → ℕ → ℕ
moved_bits negative v = if negative then 65535 - v % 2 ^ 16 else v % 2 ^ 16

-- what the bits come to after the shift
abbrev pub moved_value : Bool → ℕ → ℕ → ℤ
moved_value negative bits shift =
    if negative then negsuc (bits * 2 ^ shift) else pos (bits * 2 ^ shift)

-- The opcode, bits 23 and up, goes by the flag. The machine complements what MOVN holds.
abbrev pub movnz : Form
movnz =
    record {
      window = w32;
      width = λ _. 64;
      places = λ _. imm16_places;
      number = moved_bits;
      base = λ negative x. move_opcode negative * 2 ^ 23 + x % 2 ^ 23;
      opcode = λ w. not (nat_lt w 23);
      reading = λ x. moved_value (bit_at x 30 == 0) (place_sum imm16_places x) 0;
      flag = λ x. bit_at x 30 == 0;
      restores = λ x. opcode_of x == movn_opcode || opcode_of x == movz_opcode;
      machine =
          λ x. moved_value (opcode_of x == movn_opcode) (place_sum imm16_places x) (shift_of x);
      wanted = λ negative before v. moved_value negative (moved_bits negative v) (shift_of before);
      claim = exactly;
    }

-- ---- offsets in a page, in bytes

-- a load or store with an unsigned offset
abbrev pub has_scaled_offset : ℕ → Bool
has_scaled_offset word = field word 27 30 == 7 && field word 24 26 == 1

-- of 16 bytes, by a register for vectors
abbrev pub is_of_16_bytes : ℕ → Bool
is_of_16_bytes word = field word 30 32 == 0 && (bit_at word 26 == 1 && bit_at word 23 == 1)

-- log2 of the bytes in a unit of the offset
abbrev pub access_scale : ℕ → ℕ
access_scale word =
    if has_scaled_offset word then (if is_of_16_bytes word then 4 else field word 30 32) else 0

abbrev pub low12_places : ℕ → List ImmediateBit
low12_places scale = bits_to scale (scale + 11) 10

abbrev pub macho_low12 : Form
macho_low12 =
    record {
      window = w32;
      width = λ x. 12 + access_scale x;
      places = λ x. low12_places (access_scale x);
      number = λ _ v. v;
      base = λ _ x. x;
      opcode = λ _. false;
      reading = λ x. pos (place_sum (low12_places (access_scale x)) x);
      flag = λ _. false;
      restores = λ _. true;
      machine = λ x. pos (place_sum (low12_places (access_scale x)) x);
      wanted = λ _ before v. pos (v - v % 2 ^ access_scale before);
      claim = exactly;
    }

-- ---- immediates that are ORed to the old word

-- n bits, which the machine reads in two's complement
abbrev pub signed_immediate : ℕ → List ImmediateBit → Layout
signed_immediate n ps =
    one_field (record {
      window = w32;
      width = n;
      bits = n;
      low = 0;
      read = twos_complement;
      flags = false;
      machine = twos_complement;
      claim = modulo n;
      places = ps;
    })

-- n bits, which the machine reads without a sign; `read_value` reads them by one
abbrev pub unsigned_immediate : Sign → ℕ → List ImmediateBit → Layout
unsigned_immediate read n ps =
    one_field
    (record {
      window = w32;
      width = n;
      bits = n;
      low = 0;
      read = read;
      flags = false;
      machine = unsigned;
      claim = exactly;
      places = ps;
    })

abbrev pub aarch64_layout : AArch64Instruction → Layout
aarch64_layout Adr = signed_immediate 21 (or_bits_to 0 1 29 ++ or_bits_to 2 20 5)
aarch64_layout Movkz = unsigned_immediate twos_complement 16 (or_bits_to 0 15 5)
aarch64_layout Movnz = own_form movnz
aarch64_layout Ldr = signed_immediate 19 (or_bits_to 0 18 5)
aarch64_layout LdrRegister = unsigned_immediate unsigned 12 (or_bits_to 0 11 10)
aarch64_layout Add = unsigned_immediate unsigned 12 (or_bits_to 0 11 10)
aarch64_layout LdSt = unsigned_immediate twos_complement 12 (or_bits_to 0 11 10)
aarch64_layout TstBr = signed_immediate 14 (or_bits_to 0 13 5)
aarch64_layout Bcond = signed_immediate 19 (or_bits_to 0 18 5)
aarch64_layout JumpCall = signed_immediate 26 (or_bits_to 0 25 0)
aarch64_layout MachOLow12 = own_form macho_low12

-- the forms by their numbers from 0 up
abbrev pub aarch64_forms : List AArch64Instruction
aarch64_forms =
    Adr ∷ Movkz ∷ Movnz ∷ Ldr ∷ LdrRegister ∷ Add ∷ LdSt ∷ TstBr ∷ Bcond ∷ JumpCall ∷ MachOLow12 ∷
    []

abbrev pub aarch64_form : AArch64Instruction → Form
aarch64_form f = form_of (aarch64_layout f)
