-- PowerPC64: the instructions of `linker_laws`, those of stubs and of vector registers of
-- `linker_output`, and its functions that save and restore registers, compared with an emulator.
-- Registers 32 to 63 are those of floating-point numbers, 64 is the link register, 65 the count
-- register, and vector registers are at places 128 to 159.
use Rattle.std.specs.Prelude.{ℕ, ◌+◌, ◌-◌, ◌*◌, ◌/◌, ◌^◌, ◌==◌, nat_lt, if◌then◌else◌, Bool, false}
use Rattle.std.specs.Prelude.{Option, ◌≡◌, ◌&&◌, length, true, slice_get, List, [], ◌∷◌}
use Rattle.std.specs.Prelude.{IsSomeAnd}
use Rattle.linker_final.specs.Imports.{field, leading_zeros, option_map_or, sum_64, w64}
use Rattle.linker_final.specs.Ppc64Steps.{ppc64_groups, ppc64_restfpr, ppc64_restgpr0}
use Rattle.linker_final.specs.Ppc64Steps.{ppc64_restgpr1, ppc64_restvr, ppc64_savefpr}
use Rattle.linker_final.specs.Ppc64Steps.{ppc64_savegpr0, ppc64_savegpr1, ppc64_savevr}
use Rattle.linker_final.specs.Ppc64Steps.{ppc64_vector_groups}
use Rattle.linker_final.specs.Steps.{AllPass, Executed, Functions, Group, Numbers, after, all_below}
use Rattle.linker_final.specs.Steps.{are_bytes, at, before, bytes_from, bytes_of, is_left}
use Rattle.linker_final.specs.Steps.{listed_or, made_low, memory_from, memory_in, noise, pc}
use Rattle.linker_laws.specs.Ppc64Machine.{Formats, step_prefixed}
use Rattle.linker_output.specs.Layout.{Run}
use Rattle.linker_output.specs.Ppc64LazyPlt.{step}
use Rattle.linker_output.specs.Ppc64Output.{ppc64_output}
use Rattle.linker_output.specs.Ppc64Saves.{code_for}
use Rattle.linker_output.specs.Ppc64Stubs.{Counted, lifted}
use Rattle.linker_output.specs.Ppc64Vectors.{Vectored, run_vectored, step_vectored, vector_code}
use Rattle.linker_output.specs.Ppc64Saves as saves

-- ---- single and double precision

-- a number of 64 bits, by its sign, its biased exponent and 52 bits of its fraction
abbrev pub double : ℕ → ℕ → ℕ → ℕ
double sign exponent fraction = sign * 2 ^ 63 + exponent * 2 ^ 52 + fraction

-- A denormal number of single precision, less its sign, is its fraction in units of 2^-149. In
-- double precision the fraction's highest 1 becomes the one that isn't written.
abbrev pub normal : ℕ → ℕ → ℕ
normal sign fraction =
    let top = 63 - leading_zeros w64 fraction in
    double sign (874 + top) ((fraction - 2 ^ top) * 2 ^ (52 - top))

-- "Floating-Point Load Instructions": the same number in double precision; of an infinity or a NaN,
-- the same bits of the fraction.
abbrev pub widened : ℕ → ℕ
widened single =
    let sign = single / 2 ^ 31 in
    let exponent = field single 23 31 in
    let fraction = field single 0 23 in
    if exponent == 255 then double sign 2047 (fraction * 2 ^ 29) else (
    if nat_lt 0 exponent then double sign (896 + exponent) (fraction * 2 ^ 29) else (
    if fraction == 0 then double sign 0 0 else normal sign fraction))

-- "Floating-Point Store Instructions": some of the bits, and a denormal number where the exponent
-- is one of those. Of a number that is smaller still the manual says nothing.
abbrev pub narrowed : ℕ → ℕ
narrowed double =
    let exponent = field double 52 63 in
    let significand = 2 ^ 52 + field double 0 52 in
    if nat_lt 896 exponent then double / 2 ^ 62 * 2 ^ 30 + field double 29 59 else (
    if nat_lt 873 exponent then double / 2 ^ 63 * 2 ^ 31 + significand / 2 ^ (926 - exponent)
    else double / 2 ^ 63 * 2 ^ 31)

abbrev pub formats : Formats
formats = record { widened = widened; narrowed = narrowed }

-- ---- what is compared

abbrev pub begun : Numbers → Counted
begun n =
    let start = n at in
    let memory = memory_in n in
    record {
      state =
          record {
            registers = n;
            floats = λ r. n (32 + r);
            link = n 64;
            pc = n pc;
            memory = bytes_from start memory;
          };
      count = n 65;
    }

abbrev pub register : Counted → ℕ → ℕ
register c r =
    if nat_lt r 32 then c.state.registers r else (
    if nat_lt r 64 then c.state.floats (r - 32) else (
    if r == 64 then c.state.link else c.count))

-- an instruction of 4 bytes, or a prefixed one of 8
abbrev pub length_of : ℕ → ℕ
length_of code = if nat_lt code (2 ^ 32) then 4 else 8

abbrev pub ends_so : Numbers → Executed → Counted → Bool
ends_so n e c = is_left 66 (length_of e.code) 0 e n (register c) c.state.pc c.state.memory 0

abbrev pub executed : Numbers → Executed → Option Counted
executed n e =
    if e.code == 0x4e800020 then saves.step formats e.code (begun n) else (
    if length_of e.code == 4 then step formats e.code (begun n)
    else lifted (begun n) (step_prefixed formats e.code ((begun n).state)))

abbrev pub passes : Group → Numbers → Executed → Bool
passes g n e = option_map_or (ends_so n e) (executed n e) false

-- Each instruction leaves what the emulator did.
abbrev pub Agrees : Type 0
Agrees = AllPass made_low passes ppc64_groups

-- ---- vector registers

-- They have 128 bits.
abbrev pub vectors_before : Executed → ℕ → ℕ
vectors_before e r =
    let place = 128 + r in
    listed_or (noise 0x10000000000000000 (256 * e.row + place)) e.given place

abbrev pub are_vectors_left : Executed → (ℕ → ℕ) → Bool
are_vectors_left e vectors =
    all_below 32 (λ r. vectors r == listed_or (vectors_before e r) e.left (128 + r))

abbrev pub numbers : Executed → Numbers
numbers = before made_low

abbrev pub with_vectors : Counted → Executed → Vectored
with_vectors c e = record { counted = c; vectors = vectors_before e }

abbrev pub leaves_vectors : Executed → Vectored → Bool
leaves_vectors e v = ends_so (numbers e) e v.counted && are_vectors_left e v.vectors

-- Each of their instructions leaves what the emulator did.
abbrev pub VectorsAgree : Type 0
VectorsAgree =
    AllPass made_low (λ g n e. option_map_or (leaves_vectors e)
    (step_vectored formats e.code (with_vectors (begun n) e)) false) ppc64_vector_groups

-- ---- functions that save and restore registers

-- They run from their first instruction until they have returned. Memory has 208 bytes, at places
-- 160 to 185.
abbrev pub wide_memory : Numbers → ℕ
wide_memory numbers = memory_from 26 160 numbers

abbrev pub function_begun : Executed → Vectored
function_begun e =
    let start = numbers e at in
    let memory = wide_memory (numbers e) in
    let c = begun (numbers e) in
    with_vectors (record c { state = record c.state { memory = bytes_of 208 start memory } }) e

-- by the code of the function
abbrev pub returns_so : List ℕ → Executed → Vectored → Bool
returns_so code e v =
    let c = v.counted in
    let start = numbers e at in
    let memory_after = wide_memory (after (numbers e) e) in
    all_below 66 (λ r. register c r == after (numbers e) e r) && are_vectors_left e v.vectors
    && are_bytes 208 start memory_after c.state.memory
    && c.state.pc == listed_or (sum_64 (numbers e pc) (4 * length code)) e.left pc

-- There is a row of the function of each register, from one on to the last.
abbrev pub return_so : (ℕ → List ℕ) → ℕ → List Executed → Bool
return_so code n [] = n == 32
return_so code n (e ∷ rows) =
    e.code == n && return_so code (n + 1) rows
    && option_map_or (returns_so (code n) e) (run_vectored formats (code n) (function_begun e)) false

-- The functions of a run have the words that the emulator executed, and leave what it did.
abbrev pub DoAgree : ℕ → (Run → ℕ → List ℕ) → Functions → Type 0
DoAgree index code_of f =
    IsSomeAnd (slice_get ppc64_output.runs index) (λ r.
    (code_of r r.first ≡ f.words) × return_so (code_of r) r.first f.rows ≡ true)

abbrev pub FunctionsAgree : Type 0
FunctionsAgree =
    (DoAgree 0 code_for ppc64_savegpr0
    × DoAgree 1 code_for ppc64_restgpr0 × DoAgree 2 code_for ppc64_savegpr1
    × DoAgree 3 code_for ppc64_restgpr1)
    × (DoAgree 4 code_for ppc64_savefpr
    × DoAgree 5 code_for ppc64_restfpr × DoAgree 6 vector_code ppc64_savevr
    × DoAgree 7 vector_code ppc64_restvr)
