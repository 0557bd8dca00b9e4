-- Words of the GOT, and what offsets of thread-local storage count from (ELF Handling For
-- Thread-Local Storage).
use Rattle.std.specs.Prelude.{◌≡◌, ℕ, ◌-◌, ◌%◌, ◌==◌, slice_index, if◌then◌else◌, List, [], ◌∷◌}
use Rattle.std.specs.Prelude.{Option, Some, None}
use Rattle.linker_output.specs.Imports.{AboveImage, Address, Base, BelowImage, Descriptor, Dynamic}
use Rattle.linker_output.specs.Imports.{Module, ModuleOffset, ThreadOffset, difference_64, sum_64}
use Rattle.linker_section.specs.declared.needed.EntryClass.{EntryClass}
use Rattle.linker_output.specs.declared.got.GotLayout.{GotLayout}
use Rattle.linker_output.specs.declared.got.ThreadPointer.{ThreadPointer}
use Rattle.linker_output.specs.declared.got.GotHeader.{GotHeader}
use Rattle.linker_output.specs.declared.got.Origins.{Origins}

-- ---- thread-local storage

-- an alignment, of which 0 stands for 1
abbrev pub unit_of : ℕ → ℕ
unit_of alignment = if alignment == 0 then 1 else alignment

-- the last multiple of an alignment at an address or below, and the first one there or above
abbrev pub at_or_below : ℕ → ℕ → ℕ
at_or_below alignment address = address - address % unit_of alignment

abbrev pub at_or_above : ℕ → ℕ → ℕ
at_or_above alignment address =
    let past = address % unit_of alignment in
    if past == 0 then address else sum_64 address (unit_of alignment - past)

-- Variant II: the image ends at the thread pointer, where its alignment allows that. Variant I: the
-- image is above the thread pointer, after the bytes that the run-time library has there.
abbrev pub thread_pointer_at : ThreadPointer → ℕ → ℕ → ℕ → ℕ
thread_pointer_at AboveImage image len alignment = at_or_above alignment (sum_64 image len)
thread_pointer_at (BelowImage reserved bias) image len alignment =
    sum_64 (at_or_below alignment (difference_64 image reserved)) bias

abbrev pub origins_of : ThreadPointer → ℕ → ℕ → ℕ → ℕ → Origins
origins_of pointer module_bias image len alignment =
    record {
      thread_pointer = thread_pointer_at pointer image len alignment;
      module_block = sum_64 image module_bias;
    }

-- ---- words

abbrev pub entry_words : EntryClass → ℕ
entry_words Address = 1
entry_words ThreadOffset = 1
entry_words ModuleOffset = 2
entry_words Module = 2
entry_words Descriptor = 2

-- what they hold in a static executable, whose module has number 1
abbrev pub static_words : EntryClass → ℕ → Origins → Option (List ℕ)
static_words Address address o = Some (address ∷ 0 ∷ [])
static_words ThreadOffset address o = Some (difference_64 address o.thread_pointer ∷ 0 ∷ [])
static_words ModuleOffset address o = Some (1 ∷ difference_64 address o.module_block ∷ [])
static_words Module address o = Some (1 ∷ 0 ∷ [])
static_words Descriptor address o = None

-- The word of an address is the address; an offset leads from its origin to the address.
abbrev pub LeadsTo : EntryClass → ℕ → Origins → List ℕ → Type 0
LeadsTo Address address o words = slice_index words 0 ≡ address
LeadsTo ThreadOffset address o words = sum_64 o.thread_pointer (slice_index words 0) ≡ address
LeadsTo ModuleOffset address o words = sum_64 o.module_block (slice_index words 1) ≡ address
LeadsTo Module address o words = slice_index words 1 ≡ 0
LeadsTo Descriptor address o words = ⊥

abbrev pub header_word : Option GotHeader → ℕ → ℕ → Option ℕ
header_word None base dynamic = None
header_word (Some Dynamic) base dynamic = Some dynamic
header_word (Some Base) base dynamic = Some base

abbrev pub got_header_of : GotLayout → ℕ → ℕ → Option ℕ
got_header_of layout got dynamic = header_word layout.header (sum_64 got layout.bias) dynamic
