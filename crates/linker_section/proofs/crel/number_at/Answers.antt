use Rattle.linker_section.proofs.Imports.{add-one, ap, arith, below_more, drop, false, groups_or, inl, inr, length, low_groups, refl, slice_index, sym, take, ◌-◌, ◌<◌, ◌∙◌, ◌≡◌, ◌⊎◌}
use Rattle.linker_section.proofs.Crels.{cut_off, short_number, short_negative, long_fault, long_number, whole, most_of}
use Rattle.linker_section.proofs.crel.number_at.Goals as goal
use Rattle.linker_section.proofs.crel.number_at.Goals.{then-is_signed+then-byte-ge64, else-is_signed, else-is_signed-via-then-is_signed+else-byte-ge64, else-is_signed-via-else-is_signed, then-is_signed-2, else-is_signed-2, else-last-ne0-via-then-last-ne0+else-last-most, else-last-ne0-via-else-last-ne0}

pub returns-then-i-bytes-clause-is : goal.returns-then-i-bytes-clause-is
returns-then-i-bytes-clause-is c =
    let s = c.args.section.now in
    sym (cut_off c.args.is_signed (take (length s - c.args.at) (drop c.args.at s)) c.args.at c.loop-i.i c.loop-i.invariant.continue (omega arith) (omega arith))
    ∙ whole c.args.is_signed s c.args.at

pub returns-then-byte-lt128-clause-is : goal.returns-then-byte-lt128-clause-is
returns-then-byte-lt128-clause-is c =
    let s = c.args.section.now in
    let bytes = take (length s - c.args.at) (drop c.args.at s) in
    let i = c.loop-i.i in
    let low = groups_or bytes i c.loop-i.low c.from.result (omega arith) (λ at. absurd (omega arith)) c.loop-i.invariant.value c.from.ensures in
    elim c.if-is_signed.branch [
      | then-is_signed+then-byte-ge64 w ↦
          sym (short_negative c.args.is_signed bytes c.args.at i _ c.if-is_signed.value w.if-is_signed.true (omega arith) (omega arith)
          c.loop-i.invariant.continue (omega arith) low (omega arith) w.value-is) ∙ whole c.args.is_signed s c.args.at
      | else-is_signed w ↦
          let which : (c.args.is_signed ≡ false) ⊎ (slice_index bytes i < 0x40) =
          elim w.else-is_signed.branch [
            | else-is_signed-via-then-is_signed+else-byte-ge64 v ↦ inr v.if-byte-ge64.false
            | else-is_signed-via-else-is_signed v ↦ inl v.if-is_signed.false
          ] in
          sym (short_number c.args.is_signed bytes c.args.at i c.if-is_signed.value (omega arith) (omega arith)
          c.loop-i.invariant.continue (omega arith) (w.value-is ∙ low) which) ∙ whole c.args.is_signed s c.args.at
    ]

pub loop-i-preserved : goal.loop-i-preserved
loop-i-preserved c =
    let s = c.args.section.now in
    let bytes = take (length s - c.args.at) (drop c.args.at s) in
    let i = c.loop-i.i in record {
      continue = below_more _ _ c.loop-i.invariant.continue c.if-byte-lt128.false;
      value = rw add-one (groups_or bytes i c.loop-i.low c.from.result (omega arith) (λ at. absurd (omega arith)) c.loop-i.invariant.value c.from.ensures);
    }

pub returns-then-bytes-lt10-clause-is : goal.returns-then-bytes-lt10-clause-is
returns-then-bytes-lt10-clause-is c =
    let s = c.args.section.now in
    sym (cut_off c.args.is_signed (take (length s - c.args.at) (drop c.args.at s)) c.args.at 9 (λ j below. c.loop-i.invariant.continue j (omega arith)) (omega arith) (omega arith))
    ∙ whole c.args.is_signed s c.args.at

pub returns-then-last-most-clause-is : goal.returns-then-last-most-clause-is
returns-then-last-most-clause-is c =
    let s = c.args.section.now in
    let bytes = take (length s - c.args.at) (drop c.args.at s) in
    let most : c.if-is_signed-2.most ≡ most_of c.args.is_signed =
    elim c.if-is_signed-2.branch [
      | then-is_signed-2 w ↦ w.most-is ∙ ap most_of (sym w.if-is_signed-2.true)
      | else-is_signed-2 w ↦ w.most-is ∙ ap most_of (sym w.if-is_signed-2.false)
    ] in
    sym (long_fault c.args.is_signed bytes c.args.at (slice_index bytes 9) (omega arith)
    (λ j below. c.loop-i.invariant.continue j (omega arith)) refl c.if-last-ne0.true
    (λ is. c.if-last-most.true (is ∙ sym most))) ∙ whole c.args.is_signed s c.args.at

pub returns-clause-is : goal.returns-clause-is
returns-clause-is c =
    let s = c.args.section.now in
    let bytes = take (length s - c.args.at) (drop c.args.at s) in
    let nine : c.loop-i.i ≡ 9 = omega arith in
    let most : c.if-is_signed-2.most ≡ most_of c.args.is_signed =
    elim c.if-is_signed-2.branch [
      | then-is_signed-2 w ↦ w.most-is ∙ ap most_of (sym w.if-is_signed-2.true)
      | else-is_signed-2 w ↦ w.most-is ∙ ap most_of (sym w.if-is_signed-2.false)
    ] in
    let which : (slice_index bytes 9 ≡ 0) ⊎ (slice_index bytes 9 ≡ most_of c.args.is_signed) =
    elim c.else-last-ne0.branch [
      | else-last-ne0-via-then-last-ne0+else-last-most w ↦ inr (w.if-last-most.false ∙ most)
      | else-last-ne0-via-else-last-ne0 w ↦ inl w.if-last-ne0.false
    ] in
    sym (long_number c.args.is_signed bytes c.args.at (slice_index bytes 9) c.loop-i.low c.from-2.result (omega arith)
    (λ j below. c.loop-i.invariant.continue j (omega arith)) refl (c.loop-i.invariant.value ∙ ap (low_groups bytes) nine)
    which c.from-2.ensures) ∙ whole c.args.is_signed s c.args.at
