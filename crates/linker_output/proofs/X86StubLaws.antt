-- x86-64's stubs go to the address that their word has.
use Rattle.linker_output.proofs.Imports.{Some, ap, append-nil, append_assoc, arith, difference_64, drop, length, number_of_bytes, operands_of, place_field, refl, subst, sum_64, sym, take, take-append-drop, x86_64_name, x86_64_row, ◌++◌, ◌<◌, ◌^◌, ◌∙◌, ◌∷◌, ◌≡◌}
use Rattle.linker_laws.specs.X86Machine.{load, extended, State, step}
use Rattle.linker_elf.specs.declared.x86_64.relocations.X86_64Relocation.TheVariants as r
use Rattle.linker_output.proofs.StubWords.{applies, are_addresses, some_or}
use Rattle.linker_output.proofs.X86LazyLaws.{by_word, run_step, word_from_next}
use Rattle.linker_output.specs.X86LazyPlt as lazy
use Rattle.linker_output.specs.X86Output.{x86_64_output}
use Rattle.linker_output.specs.X86Stubs as stubs

pub loads_go : stubs.Loads
loads_go place word inside below code is s at =
    let stub = x86_64_output.load_stub in
    let o = operands_of stub place word in
    let half = is.2.0 in
    let template = stub.pair in
    let field = applies x86_64_name x86_64_row r.R_X86_64_PC32 stub.first o template half tt refl is.2.1 in
    let rest = drop 2 half in
    let bytes : half ≡ 0xff ∷ 0x25 ∷ rest =
    sym (take-append-drop 2 half) ∙ ap (λ b. b ++ rest) field.kept in
    let d = extended (number_of_bytes 4 rest) in
    let leads : sum_64 (sum_64 s.ip 6) d ≡ word =
    word_from_next s.ip d word (subst (λ p. p < 2 ^ 64) (sym at) inside) below
    (ap (λ p. sum_64 (sum_64 p 2) d) at
    ∙ place_field o (are_addresses stub place word below) (drop 2 template) rest field.applied) in
    ap (λ b. step b s) ((is.3 ∙ append-nil is.0 ∙ is.2.2) ∙ bytes)
    ∙ ap (λ a. Some (record s { ip = load 8 s a })) leads

-- ---- after `endbr64`

pub landing_loads_go : stubs.LandingLoads
landing_loads_go place word inside below code is s at =
    let stub = some_or x86_64_output.load_stub x86_64_output.landing_load_stub in
    let o = operands_of stub place word in
    let half = is.2.0 in
    let template = stub.pair in
    let field = applies x86_64_name x86_64_row r.R_X86_64_PC32 stub.first o template half tt refl is.2.1 in
    let rest = drop 6 half ++ stub.tail in
    let d = extended (number_of_bytes 4 (drop 2 half)) in
    let s1 : State = record s { ip = sum_64 s.ip 4 } in
    let at_4 : s1.ip ≡ sum_64 place 4 = ap (λ p. sum_64 p 4) at in
    let later : sum_64 (sum_64 s1.ip 2) d ≡ sum_64 (sum_64 place 6) d =
    ap (λ p. sum_64 (sum_64 p 2) d) at_4 ∙ (let e : sum_64 (sum_64 place 4) 2 ≡ sum_64 place 6 = omega arith in ap (λ p. sum_64 p d) e) in
    let leads : sum_64 (sum_64 s1.ip 6) d ≡ word =
    word_from_next s1.ip d word (omega arith) below
    (later ∙ place_field o (are_addresses stub place word below) (drop 2 template) (drop 2 half) field.applied) in
    let split : drop 4 code ≡ take 6 half ++ rest =
    ap (drop 4) is.3 ∙ ap (λ p. p ++ stub.tail) (is.2.2 ∙ sym (take-append-drop 6 half))
    ∙ append_assoc (take 6 half) (drop 6 half) stub.tail in
    let none : difference_64 s.ip place ≡ 0 = ap (λ p. difference_64 p place) at ∙ omega (arith, inside) in
    let four : difference_64 s1.ip place ≡ 4 = ap (λ p. difference_64 p place) at_4 ∙ omega (arith, inside) in
    let second : lazy.step (drop 4 code) s1 ≡ Some (record s { ip = load 8 s word }) =
    ap (λ c. lazy.step c s1) split ∙ by_word half rest s1 (ap length (sym is.2.2) ∙ is.1) field.kept ∙ ap (λ a. Some (record s { ip = load 8 s a })) leads in
    run_step 1 code place 0 s (Some s1) none (ap (λ c. lazy.step c s) is.3)
    ∙ run_step 0 code place 4 s1 (Some (record s { ip = load 8 s word })) four second
