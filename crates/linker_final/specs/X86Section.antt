-- x86-64: what the rewrites of a section are, and where they begin in a run of old (x86-64 psABI,
-- "Optimize GOTPCRELX Relocations" and "ELF Handling For Thread-Local Storage").
use Rattle.std.specs.Prelude.{◌≡◌, ℕ, ◌+◌, ◌-◌, ◌^◌, ◌<◌, ◌≤◌, false, ⊤, List, get_or, length, take}
use Rattle.std.specs.Prelude.{drop, ◌++◌, Option, Some, None, IsSomeAnd, slice_get}
use Rattle.linker_final.specs.Imports.{Addresses, Choice, Group, IsNameOf, IsRow, Kinds, Operands}
use Rattle.linker_final.specs.Imports.{Relaxation, Rewritten, RowInfo, State, Symbol, X86_64}
use Rattle.linker_final.specs.Imports.{decision_at, difference_64, number_of_bytes, of_link}
use Rattle.linker_final.specs.Imports.{operands_with, relocation_in, sum_64}
use Rattle.linker_laws.specs.Schemes.{AreAddresses}
use Rattle.linker_elf.specs.X86Relocations.{x86_64_name, x86_64_row}
use Rattle.linker_elf.specs.declared.x86_64.relocations.X86_64Relocation.{X86_64Relocation}
use Rattle.linker_final.specs.Final.{IsLinked, Linked, Rewriting, Section, UntouchedByOthers}
use Rattle.linker_final.specs.Final.{UntouchedBytes, count, offset_of}
use Rattle.linker_laws.specs.X86Groups.{AddsOffset, Code, IsCall, IsDescriptorCall, IsGroup, IsJump}
use Rattle.linker_laws.specs.X86Groups.{IsLea, IsModuleCall, IsThreadCall, LoadsNumber, MakesOffset}
use Rattle.linker_laws.specs.X86Groups.{Stands, link, reg_after_rex, reg_after_rex2}
use Rattle.linker_laws.specs.X86Machine.{extended}
use Rattle.linker_laws.specs.X86Groups.{IsRelocated, address, thread_offset}
use Rattle.linker_elf.specs.declared.x86_64.relocations.X86_64Relocation.TheVariants as names
use Rattle.linker_utils.specs.declared.architecture.Relaxation.TheVariants as relaxations
use Rattle.linker_utils.specs.declared.x86_64.rewrites.RewriteKind.TheVariants as kinds

-- ---- what is rewritten

-- an operand in the GOT, whose entry holds a number; a `lea` of a GOT entry and a call of
-- `__tls_get_addr` for a variable, or for a module's block, and how many instructions new has; the
-- `lea` of a descriptor's address into a register, and the call of its function
pub data Form : Type 0 where
  in_got : (Operands → ℕ) → Form
  variable : ℕ → Form
  block : ℕ → Form
  lea : (List ℕ → ℕ) → Form
  call : Form

-- Instructions that are rewritten together: how many bytes they have before the offset of their
-- relocation, and from there on.
pub record Window : Type 0 where
  pub form : Form
  pub back : ℕ
  pub end : ℕ

abbrev pub window : Form → ℕ → ℕ → Window
window form back end = record { form = form; back = back; end = end }

-- those of a call of `__tls_get_addr`, by what becomes of them
abbrev pub sequence_of : Relaxation → Option Window
sequence_of (relaxations.X86_64 kinds.TlsGdToLocalExec) = Some (window (variable 2) 4 12)
sequence_of (relaxations.X86_64 kinds.TlsGdToInitialExec) = Some (window (variable 2) 4 12)
sequence_of (relaxations.X86_64 kinds.TlsGdToLocalExecLarge) = Some (window (variable 3) 3 19)
sequence_of (relaxations.X86_64 kinds.TlsLdToLocalExec) = Some (window (block 1) 3 9)
sequence_of (relaxations.X86_64 kinds.TlsLdToLocalExecNoPlt) = Some (window (block 1) 3 10)
sequence_of (relaxations.X86_64 kinds.TlsLdToLocalExec64) = Some (window (block 2) 3 19)
sequence_of kind = None

-- by the relocation
abbrev pub window_of : X86_64Relocation → Relaxation → Option Window
window_of names.R_X86_64_GOTPCREL kind = Some (window (in_got address) 3 4)
window_of names.R_X86_64_GOTPCRELX kind = Some (window (in_got address) 2 4)
window_of names.R_X86_64_REX_GOTPCRELX kind = Some (window (in_got address) 3 4)
window_of names.R_X86_64_CODE_4_GOTPCRELX kind = Some (window (in_got address) 4 4)
window_of names.R_X86_64_CODE_6_GOTPCRELX kind = Some (window (in_got address) 6 4)
window_of names.R_X86_64_GOTTPOFF kind = Some (window (in_got thread_offset) 3 4)
window_of names.R_X86_64_CODE_4_GOTTPOFF kind = Some (window (in_got thread_offset) 4 4)
window_of names.R_X86_64_CODE_6_GOTTPOFF kind = Some (window (in_got thread_offset) 6 4)
window_of names.R_X86_64_TLSGD kind = sequence_of kind
window_of names.R_X86_64_TLSLD kind = sequence_of kind
window_of names.R_X86_64_GOTPC32_TLSDESC kind = Some (window (lea reg_after_rex) 3 4)
window_of names.R_X86_64_CODE_4_GOTPC32_TLSDESC kind = Some (window (lea reg_after_rex2) 4 4)
window_of names.R_X86_64_TLSDESC_CALL kind = Some (window call 0 2)
window_of name kind = None

-- They are at the relocation with an index.
pub record Rewrites (l : Linked) : Type 0 where
  pub i : ℕ
  pub below : i < count l
  pub name : X86_64Relocation
  pub is_name : IsNameOf x86_64_name (relocation_in l.relocations i).r_type name
  pub chosen : Choice Relaxation ℕ
  pub decided : decision_at l.decisions i ≡ Rewritten chosen
  pub window : Window
  pub is : window_of name chosen.kind ≡ Some window

abbrev pub span : (l : Linked) → Rewrites l → ℕ × ℕ
span l g = (offset_of l g.i - g.window.back, offset_of l g.i + g.window.end)

-- ---- their laws

-- of an instruction with an operand in the GOT, by what became of it
abbrev pub IsGroupOf : Relaxation → (Operands → ℕ) → Code → Operands → State → Type 0
IsGroupOf (relaxations.X86_64 kinds.CallIndirectToRelative) held = IsCall
IsGroupOf (relaxations.X86_64 kinds.JmpIndirectToRelative) held = IsJump
IsGroupOf kind held = IsGroup held

-- Where a rewrite leaves an instruction that adds the variable's offset from a GOT entry, the
-- symbol's entry holds it.
abbrev pub EntryHolds : Relaxation → Symbol → Code → Kinds → State → Kinds → Operands → Type 0
EntryHolds (relaxations.X86_64 kinds.TlsGdToInitialExec) symbol c k s k' o =
    (symbol.thread_entry < 2 ^ 64) × AddsOffset symbol.thread_entry c k s k' o
EntryHolds kind symbol c k s k' o = ⊤

-- the number that a rewritten `lea` makes: the variable's offset, or what its GOT entry has
abbrev pub Makes : Relaxation → Symbol → Code → Kinds → State → Operands → ℕ → Type 0
Makes (relaxations.X86_64 kinds.TlsDescToInitialExec) symbol c k s o number =
    (symbol.thread_entry < 2 ^ 64) × LoadsNumber symbol.thread_entry c k s o number
Makes kind symbol c k s o number = MakesOffset c k s o number

abbrev pub LawOf : Form → Window → Relaxation → Symbol → Code → Operands → State → Type 0
LawOf (in_got held) w kind symbol = IsGroupOf kind held
LawOf (variable n) w kind symbol =
    IsThreadCall (w.back + 4) (w.back + w.end) n (EntryHolds kind symbol)
LawOf (block n) w kind symbol = IsModuleCall (w.back + w.end) n
LawOf (lea register_of) w kind symbol = IsLea w.back register_of (Makes kind symbol)
LawOf call w kind symbol = λ c o. IsDescriptorCall c

-- ---- where old comes to them

-- bytes with n of others, from a start on
abbrev pub put_back : ℕ → ℕ → List ℕ → List ℕ → List ℕ
put_back start len others bytes =
    take start bytes ++ take len (drop start others) ++ drop (start + len) bytes

-- Operands are by the row of what a relocation of the GOT became, or of an offset from the thread
-- pointer. Those of a module's block are of any symbol.
abbrev pub AreBy : Form → Linked → ℕ → ℕ → Symbol → RowInfo → Type 0
AreBy (block n) l i r_type symbol row = x86_64_row names.R_X86_64_TLSLD ≡ Some row
AreBy (in_got held) l i r_type symbol row =
    (slice_get l.symbols (relocation_in l.relocations i).symbol ≡ Some symbol)
    × IsRow X86_64 r_type (Some row)
AreBy form l i r_type symbol row =
    (slice_get l.symbols (relocation_in l.relocations i).symbol ≡ Some symbol)
    × (x86_64_row names.R_X86_64_TPOFF32 ≡ Some row)

-- The relocation is applied to the object's bytes, in their place in the final section. Old has
-- them, up to 4 after its offset.
pub record IsObject (l : Linked) (i : ℕ) (name : X86_64Relocation) (r_type : ℕ) (w : Window)
    (symbol : Symbol) (o : Operands) (c : Code) (s : State) : Type 0 where
  pub row : RowInfo
  pub by : AreBy w.form l i r_type symbol row
  pub entry : ℕ
  pub are : o ≡ operands_with X86_64 l.addresses row symbol (relocation_in l.relocations i) entry
  pub addresses : AreAddresses o
  pub original : List ℕ
  pub applied : IsRelocated name o (offset_of l i)
      (put_back (offset_of l i - w.back) (w.back + w.end) l.section l.final) original
  pub old : Stands c.old s.pc (w.back + 4) (drop (offset_of l i - w.back) original)

-- A descriptor's call has no field.
abbrev pub HasObject : Form → Linked → ℕ → X86_64Relocation → ℕ → Window → Symbol → Operands → Code
    → State → Type 0
HasObject call l i name r_type w symbol o c s = Stands c.old s.pc 2 (drop (offset_of l i) l.section)
HasObject form l i name r_type w symbol o c s = IsObject l i name r_type w symbol o c s

-- Old comes to instructions that are rewritten together. Later phases and other relocations leave
-- them alone; that of a call of `__tls_get_addr` has no field any more. What else their law
-- requires holds, so that by it new executes n, and they leave kinds and a state.
pub record Begins (x : Section) (l : Linked) (c : Code) (k : Kinds) (s : State) (g : Rewrites l)
    (n : ℕ) (k' : Kinds) (s' : State) : Type 0 where
  pub pc : s.pc ≡ sum_64 l.addresses.section (span l g).0
  pub alone : UntouchedByOthers l g.i (span l g).0 (g.window.back + g.window.end)
  pub symbol : Symbol
  pub operands : Operands
  pub object :
      HasObject g.window.form l g.i g.name g.chosen.relocation g.window symbol operands c s
  pub by_law : LawOf g.window.form g.window g.chosen.kind symbol c operands s
      → Group (of_link (link c)) n k s k' s'

-- new has the final bytes
abbrev pub HasFinal : Addresses → List ℕ → Code → Type 0
HasFinal addresses final c =
    (at n : ℕ) → at + n ≤ length final
    → Stands c.new (sum_64 addresses.section at) n (drop at final)

-- A byte stays that no rewrite has, or that one leaves as it is.
abbrev pub rewriting : Rewriting
rewriting =
    record {
      architecture = X86_64;
      Code = Code;
      link = link;
      Ensured = IsLinked;
      Stays = λ l b. get_or l.rewritten b 0 ≡ get_or l.section b 0;
      Rewrites = Rewrites;
      span = span;
      Begins = λ x l c k s g n k' s'. HasFinal x.addresses x.final c × Begins x l c k s g n k' s';
    }

-- ---- offsets in the module's block

-- The field of n bytes of the relocation at an index leads from the block's address, in the
-- object's bytes with the relocation's value, to where it leads in the final ones from the thread
-- pointer. The symbol isn't an undefined weak one.
abbrev pub LeadsToTheSame : ℕ → (ℕ → ℕ) → X86_64Relocation → Linked → ℕ → RowInfo → Type 0
LeadsToTheSame n read name l i row =
    let r = relocation_in l.relocations i in
    (symbol : Symbol)
    → slice_get l.symbols r.symbol ≡ Some symbol → symbol.is_undefined_weak ≡ false
    → (entry block pointer : ℕ) (original : List ℕ)
    → let operands = operands_with X86_64 l.addresses row symbol r entry in
    AreAddresses operands → l.addresses.thread_origin < 2 ^ 64
    → block ≡ sum_64 pointer (difference_64 l.addresses.module_origin l.addresses.thread_origin)
    → IsRelocated name operands r.offset (put_back r.offset n l.section l.final) original
    → sum_64 block (read (number_of_bytes n (drop r.offset original)))
    ≡ sum_64 pointer (read (number_of_bytes n (drop r.offset l.final)))

-- of n bytes, which are read so, and which later phases leave alone
abbrev pub EachOffset : ℕ → (ℕ → ℕ) → X86_64Relocation → Type 0
EachOffset n read name =
    (l : Linked) → IsLinked l → l.context.architecture ≡ X86_64
    → (i : ℕ) (chosen : Choice Relaxation ℕ) → i < count l
    → IsNameOf x86_64_name (relocation_in l.relocations i).r_type name
    → decision_at l.decisions i ≡ Rewritten chosen → UntouchedBytes l i (offset_of l i) n
    → IsSomeAnd (x86_64_row name) (LeadsToTheSame n read name l i)

-- Of every offset in a module's block that became one from the thread pointer. One of 32 bits is
-- sign-extended.
abbrev pub Offsets : Type 0
Offsets =
    EachOffset 4 extended names.R_X86_64_DTPOFF32
    × EachOffset 8 (λ offset. offset) names.R_X86_64_DTPOFF64
