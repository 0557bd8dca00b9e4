-- Calls of RISC-V, and the jumps that they become.
use Rattle.linker_elf.specs.RiscV.{riscv_form}
use Rattle.std.specs.Prelude.{◌≡◌, ℕ, ◌+◌, List, take, drop, ℤ, pos}
use Rattle.std.specs.Prelude.{negsuc, ◌≤ℤ◌, ◌-ℤ◌, ◌≤◌, ◌<◌, length, IsTrue}
use Rattle.std.specs.Prelude.{⊤}
use Rattle.linker_base.specs.Deletions.{is_kept, rank}
use Rattle.std.specs.Int.{w32, from_le_bytes, int_rem_euclid}
use Rattle.linker_base.specs.Bits.{field}
use Rattle.linker_elf.specs.declared.riscv64.forms.RiscVInstruction.TheVariants.{JType}
use Rattle.linker_riscv64.specs.declared.calls.LinkRegister.{LinkRegister}
use Rattle.linker_riscv64.specs.declared.calls.LinkRegister.TheVariants.{OfAuipc, OfJalr}

-- `auipc` and a `jalr` whose base is the register of the `auipc`
pub record IsCallPair (auipc jalr : ℕ) : Type 0 where
  pub auipc_opcode : field auipc 0 7 ≡ 0x17
  pub jalr_opcode : field jalr 0 7 ≡ 0x67
  pub jalr_function : field jalr 12 15 ≡ 0
  pub base : field jalr 15 20 ≡ field auipc 7 12

abbrev pub IsEven : ℤ → Type 0
IsEven d = int_rem_euclid d (pos 2) ≡ pos 0

-- from -1048576 to 1048575
abbrev pub IsJalDistance : ℤ → Type 0
IsJalDistance d = (negsuc 1048575 ≤ℤ d) × (d ≤ℤ pos 1048575)

-- the word of four bytes at a site
abbrev pub word_at : List ℕ → ℕ → ℕ
word_at section site = from_le_bytes w32 (drop site section)

-- eight bytes are there, and are such a pair whose `jalr` links the register of the `auipc`
abbrev pub IsPlainCall : List ℕ → ℕ → Type 0
IsPlainCall section site =
    (site + 8 ≤ length section)
    × IsCallPair (word_at section site) (word_at section (site + 4))
    × (field (word_at section (site + 4)) 7 12 ≡ field (word_at section site) 7 12)

-- how many bytes of a call say which register its jump links
abbrev pub call_len : LinkRegister → ℕ
call_len OfAuipc = 4
call_len OfJalr = 8

-- whether those bytes say it: any `auipc` does, a `jalr` only in a call
abbrev pub NamesRegister : LinkRegister → List ℕ → ℕ → Type 0
NamesRegister OfAuipc section site = ⊤
NamesRegister OfJalr section site = IsCallPair (word_at section site) (word_at section (site + 4))

-- the register that the jump links: the destination, bits 7 to 11, of the `auipc` or of the `jalr`
abbrev pub link_register : LinkRegister → List ℕ → ℕ → ℕ
link_register OfAuipc section site = field (word_at section site) 7 12
link_register OfJalr section site = field (word_at section (site + 4)) 7 12

-- The word is `jal` by the distance, and links the register.
pub record IsJal (word register : ℕ) (distance : ℤ) : Type 0 where
  pub opcode : field word 0 7 ≡ 0x6f
  pub register_bits : field word 7 12 ≡ register
  pub reads : (riscv_form JType).machine word ≡ distance

-- At the site stands such a `jal`, and no other byte has changed.
pub record JumpsAndLinks (before after : List ℕ) (site register : ℕ) (distance : ℤ) : Type 0 where
  pub jal : IsJal (word_at after site) register distance
  pub front : take site after ≡ take site before
  pub rest : drop (site + 4) after ≡ drop (site + 4) before

-- the same with the destination register of the word before
abbrev pub JumpsAt : List ℕ → List ℕ → ℕ → ℤ → Type 0
JumpsAt before after site distance =
    JumpsAndLinks before after site (field (word_at before site) 7 12) distance

-- the four bytes at the site lie in the section, and the target isn't past its end
abbrev pub IsInSection : List ℕ → ℕ → ℕ → Type 0
IsInSection section site target = (site + 4 ≤ length section) × (target ≤ length section)

-- none of the four bytes at the site is deleted
abbrev pub IsSiteKept : List (ℕ × ℕ) → ℕ → Type 0
IsSiteKept deletions site = (k : ℕ) → k < 4 → IsTrue (is_kept deletions (site + k))

-- how far the target stands from the site once the deleted bytes are gone
abbrev pub output_distance : List (ℕ × ℕ) → ℕ → ℕ → ℤ
output_distance deletions site target = pos (rank deletions target) -ℤ pos (rank deletions site)
