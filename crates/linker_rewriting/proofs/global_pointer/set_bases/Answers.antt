use Rattle.linker_rewriting.proofs.Imports.{ap, arith, based_relocation, based_section, is_placed, length, relocation_in, rules, subst, sym, ◌/◌, ◌<◌, ◌∙◌, ◌≡◌}
use Rattle.linker_rewriting.proofs.GlobalPointer.{turned_next, same_placed, based_next}
use Rattle.linker_rewriting.proofs.global_pointer.set_bases.Goals as goal

pub set_base-based-requires : goal.set_base-based-requires
set_base-based-requires c =
    let a = c.args in
    let k = c.loop-index.index in
    let less = subst (λ n. k < n) c.relocations_len-index-end.ensures c.loop-index-test.true in
    let same : c.relocation_in-relocation.result ≡ relocation_in a.relocations.now k =
    c.relocation_in-relocation.ensures ∙ c.loop-index.invariant.turned.above k (omega arith) less in
    same_placed a.bases.now.addresses.now a.bases.now.values.now a.bases.now.gp c.loop-index.section a.section.now c.relocation_in-relocation.result
    c.loop-index.invariant.same_len
    ∙ (ap (is_placed a.bases.now.addresses.now a.bases.now.values.now a.bases.now.gp a.section.now) same ∙ c.requires k less)

pub loop-index-preserved : goal.loop-index-preserved
loop-index-preserved c =
    let a = c.args in
    let k = c.loop-index.index in
    let r = c.relocation_in-relocation.result in
    let limit = length a.relocations.now / 24 in
    let less = subst (λ n. k < n) c.relocations_len-index-end.ensures c.loop-index-test.true in
    let turned = c.loop-index.invariant.turned in
    let same : r ≡ relocation_in a.relocations.now k =
    c.relocation_in-relocation.ensures ∙ turned.above k (omega arith) less in
    let same_len : length c.loop-index.relocations ≡ length a.relocations.now = turned.same_len in
    record {
      turned = turned_next (λ n x. based_relocation a.bases.now.addresses.now a.bases.now.values.now a.bases.now.gp x) a.relocations.now
          c.loop-index.relocations c.set_relocation.new.relocations limit k
          r c.set_base-based.result turned less c.relocation_in-relocation.ensures
          c.set_base-based.ensures.relocation c.set_relocation.ensures.set
          (λ n below ne. c.set_relocation.ensures.others n (subst (λ l. n < l / 24) (sym same_len) below) ne)
          (search rules);
      based = c.set_base-based.ensures.section
          ∙ (ap (λ s. based_section a.bases.now.addresses.now a.bases.now.values.now a.bases.now.gp s r) c.loop-index.invariant.based
          ∙ (ap (based_section a.bases.now.addresses.now a.bases.now.values.now a.bases.now.gp _) same
          ∙ sym (based_next a.bases.now.addresses.now a.bases.now.values.now a.bases.now.gp a.relocations.now a.section.now k)));
      same_len = search rules;
    }
