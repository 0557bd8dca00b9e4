use Rattle.linker_utils.proofs.Imports.{List, RewriteKind, ap, arith, bit_and, bit_or, drop, from_le_bytes, inl, inr, ppc64_rewrite, refl, rewritten, rt_of, subst, sym, take, to_le_bytes, w32, w64, ℕ, ◌*◌, ◌++◌, ◌+◌, ◌-◌, ◌<◌, ◌^◌, ◌∙◌, ◌≡◌}
use Rattle.linker_utils.proofs.RewriteRows.{first_of_window, kept_field, one_word, set_alone, word_alone}
use Rattle.linker_utils.proofs.Ppc64Rows.{all_kept, with_base}
use Rattle.linker_utils.proofs.ppc64.rewrites.RewriteKindInstructionRewrite.apply.Goals as goal

abbrev word : List ℕ → ℕ → ℕ
word s o = from_le_bytes w32 (take 4 (drop o s))

abbrev first : List ℕ → ℕ → ℕ
first s o = from_le_bytes w32 (take 8 (drop o s))

abbrev second : List ℕ → ℕ → ℕ
second s o = from_le_bytes w32 (drop 4 (take 8 (drop o s)))

-- `addi rT,13,n`
of_thread : (n w : ℕ) → bit_and 0x03e00000 (0x380d0000 + n) ≡ 0
    → bit_or (bit_and w 0x03e00000) (0x380d0000 + n) ≡ 0x380d0000 + rt_of w * 2 ^ 21 + n
of_thread n w apart = kept_field 21 5 (0x380d0000 + n) w apart ∙ omega arith

two : (s : List ℕ) (o a b m n : ℕ) → a ≡ b → m ≡ n
    → take o s ++ to_le_bytes w64 (a + m * 2 ^ 32) ++ drop (o + 8) s ≡ take o s ++ to_le_bytes w64 (b + n * 2 ^ 32) ++ drop (o + 8) s
two s o a b m n is are =
    ap (λ k. take o s ++ to_le_bytes w64 (k + m * 2 ^ 32) ++ drop (o + 8) s) is
    ∙ ap (λ k. take o s ++ to_le_bytes w64 (b + k * 2 ^ 32) ++ drop (o + 8) s) are

-- the bytes that a rewrite leaves, by its name
of_kind : (s new : List ℕ) (o : ℕ) {kind k : RewriteKind} → kind ≡ k → new ≡ rewritten (ppc64_rewrite k) s o → new ≡ rewritten (ppc64_rewrite kind) s o
of_kind s new o is made = made ∙ ap (λ kind. rewritten (ppc64_rewrite kind) s o) (sym is)

pub returns-in-BaseToToc-clause-bytes : goal.returns-in-BaseToToc-clause-bytes
returns-in-BaseToToc-clause-bytes c =
    let s = c.args.section.now in
    let o = c.args.offset.now - 0 in
    of_kind c.args.section.now _ c.args.offset.now c.in-BaseToToc.is (c.apply-in-BaseToToc.ensures.edited ∙ one_word s o _ _ (with_base 2 (word s o) refl))

pub returns-in-LdToAddi-clause-bytes : goal.returns-in-LdToAddi-clause-bytes
returns-in-LdToAddi-clause-bytes c =
    let s = c.args.section.now in
    let o = c.args.offset.now - 0 in
    of_kind c.args.section.now _ c.args.offset.now c.in-LdToAddi.is (c.apply-in-LdToAddi.ensures.edited ∙ one_word s o _ _ (kept_field 16 10 0x38000000 (word s o) refl))

pub returns-in-LdToAddisThread-clause-bytes : goal.returns-in-LdToAddisThread-clause-bytes
returns-in-LdToAddisThread-clause-bytes c =
    let s = c.args.section.now in
    let o = c.args.offset.now - 0 in
    of_kind c.args.section.now _ c.args.offset.now c.in-LdToAddisThread.is (c.apply-in-LdToAddisThread.ensures.edited ∙ one_word s o _ _ (kept_field 21 5 0x3c0d0000 (word s o) refl))

pub returns-in-AddToAddi-clause-bytes : goal.returns-in-AddToAddi-clause-bytes
returns-in-AddToAddi-clause-bytes c =
    let s = c.args.section.now in
    let o = c.args.offset.now - 0 in
    of_kind c.args.section.now _ c.args.offset.now c.in-AddToAddi.is (c.apply-in-AddToAddi.ensures.edited ∙ one_word s o _ _ (kept_field 16 10 0x38000000 (word s o) refl))

pub returns-in-AddiToAddisThread-clause-bytes : goal.returns-in-AddiToAddisThread-clause-bytes
returns-in-AddiToAddisThread-clause-bytes c =
    let s = c.args.section.now in
    let o = c.args.offset.now - 0 in
    of_kind c.args.section.now _ c.args.offset.now c.in-AddiToAddisThread.is (c.apply-in-AddiToAddisThread.ensures.edited ∙ one_word s o _ _ (kept_field 21 5 0x3c0d0000 (word s o) refl))

pub returns-in-AddiToLd-clause-bytes : goal.returns-in-AddiToLd-clause-bytes
returns-in-AddiToLd-clause-bytes c =
    let s = c.args.section.now in
    let o = c.args.offset.now - 0 in
    of_kind c.args.section.now _ c.args.offset.now c.in-AddiToLd.is (c.apply-in-AddiToLd.ensures.edited ∙ one_word s o _ _ (kept_field 16 10 0xe8000000 (word s o) refl))

pub returns-in-BaseToThread-clause-bytes : goal.returns-in-BaseToThread-clause-bytes
returns-in-BaseToThread-clause-bytes c =
    let s = c.args.section.now in
    let o = c.args.offset.now - 0 in
    of_kind c.args.section.now _ c.args.offset.now c.in-BaseToThread.is (c.apply-in-BaseToThread.ensures.edited ∙ one_word s o _ _ (with_base 13 (word s o) refl))

pub returns-in-PldToPaddi-clause-bytes : goal.returns-in-PldToPaddi-clause-bytes
returns-in-PldToPaddi-clause-bytes c =
    let s = c.args.section.now in
    let o = c.args.offset.now - 0 in
    of_kind c.args.section.now _ c.args.offset.now c.in-PldToPaddi.is (c.apply-in-PldToPaddi.ensures.edited ∙ two s o _ _ _ _ (set_alone 0x06100000 (first s o)) (kept_field 21 5 0x38000000 (second s o) refl))

pub returns-in-PldToPaddiThread-clause-bytes : goal.returns-in-PldToPaddiThread-clause-bytes
returns-in-PldToPaddiThread-clause-bytes c =
    let s = c.args.section.now in
    let o = c.args.offset.now - 0 in
    of_kind c.args.section.now _ c.args.offset.now c.in-PldToPaddiThread.is (c.apply-in-PldToPaddiThread.ensures.edited ∙ two s o _ _ _ _ (set_alone 0x06000000 (first s o)) (of_thread 0 (second s o) refl))

pub returns-in-PaddiToPaddiThread-clause-bytes : goal.returns-in-PaddiToPaddiThread-clause-bytes
returns-in-PaddiToPaddiThread-clause-bytes c =
    let s = c.args.section.now in
    let o = c.args.offset.now - 0 in
    of_kind c.args.section.now _ c.args.offset.now c.in-PaddiToPaddiThread.is (c.apply-in-PaddiToPaddiThread.ensures.edited ∙ two s o _ _ _ _ (set_alone 0x06000000 (first s o)) (of_thread 0 (second s o) refl))

pub returns-in-PaddiToPld-clause-bytes : goal.returns-in-PaddiToPld-clause-bytes
returns-in-PaddiToPld-clause-bytes c =
    let s = c.args.section.now in
    let o = c.args.offset.now - 0 in
    of_kind c.args.section.now _ c.args.offset.now c.in-PaddiToPld.is (c.apply-in-PaddiToPld.ensures.edited ∙ two s o _ _ _ _ (set_alone 0x04100000 (first s o)) (kept_field 21 5 0xe4000000 (second s o) refl))

pub returns-in-PaddiToPaddi4096-clause-bytes : goal.returns-in-PaddiToPaddi4096-clause-bytes
returns-in-PaddiToPaddi4096-clause-bytes c =
    let s = c.args.section.now in
    let o = c.args.offset.now - 0 in
    of_kind c.args.section.now _ c.args.offset.now c.in-PaddiToPaddi4096.is (c.apply-in-PaddiToPaddi4096.ensures.edited ∙ two s o _ _ _ _ (set_alone 0x06000000 (first s o)) (of_thread 0x1000 (second s o) refl))

pub returns-in-NopToRestoreToc-clause-bytes : goal.returns-in-NopToRestoreToc-clause-bytes
returns-in-NopToRestoreToc-clause-bytes c =
    let s = c.args.section.now in
    let o = c.args.offset.now - 0 in
    let made = c.apply-in-NopToRestoreToc.ensures in
    of_kind c.args.section.now _ c.args.offset.now c.in-NopToRestoreToc.is (made.edited
    ∙ two s o _ _ _ _ (all_kept (first s o) (subst (λ n. n < 2 ^ 32) (first_of_window (drop o s)) (elim made.word [ inl less ↦ absurd (omega (arith, less)) | inr small ↦ small ])))
    (set_alone 0xe8410018 (first s o)))

pub returns-in-AddisToNop-clause-bytes : goal.returns-in-AddisToNop-clause-bytes
returns-in-AddisToNop-clause-bytes c =
    of_kind c.args.section.now _ c.args.offset.now c.in-AddisToNop.is (c.apply-in-AddisToNop.ensures.edited ∙ word_alone 0x60000000 c.args.section.now (c.args.offset.now - 0))

pub returns-in-AddisToLis-clause-bytes : goal.returns-in-AddisToLis-clause-bytes
returns-in-AddisToLis-clause-bytes c =
    of_kind c.args.section.now _ c.args.offset.now c.in-AddisToLis.is (c.apply-in-AddisToLis.ensures.edited ∙ word_alone 0x3c400000 c.args.section.now (c.args.offset.now - 0))

pub returns-in-AddiAfterLis-clause-bytes : goal.returns-in-AddiAfterLis-clause-bytes
returns-in-AddiAfterLis-clause-bytes c =
    of_kind c.args.section.now _ c.args.offset.now c.in-AddiAfterLis.is (c.apply-in-AddiAfterLis.ensures.edited ∙ word_alone 0x38420000 c.args.section.now (c.args.offset.now - 0))

pub returns-in-AddisThreadToNop-clause-bytes : goal.returns-in-AddisThreadToNop-clause-bytes
returns-in-AddisThreadToNop-clause-bytes c =
    of_kind c.args.section.now _ c.args.offset.now c.in-AddisThreadToNop.is (c.apply-in-AddisThreadToNop.ensures.edited ∙ word_alone 0x60000000 c.args.section.now (c.args.offset.now - 0))

pub returns-in-BranchToNop-clause-bytes : goal.returns-in-BranchToNop-clause-bytes
returns-in-BranchToNop-clause-bytes c =
    of_kind c.args.section.now _ c.args.offset.now c.in-BranchToNop.is (c.apply-in-BranchToNop.ensures.edited ∙ word_alone 0x60000000 c.args.section.now (c.args.offset.now - 0))

pub returns-in-BranchToAdd-clause-bytes : goal.returns-in-BranchToAdd-clause-bytes
returns-in-BranchToAdd-clause-bytes c =
    of_kind c.args.section.now _ c.args.offset.now c.in-BranchToAdd.is (c.apply-in-BranchToAdd.ensures.edited ∙ word_alone 0x7c636a14 c.args.section.now (c.args.offset.now - 0))

pub returns-in-CallToAddi-clause-bytes : goal.returns-in-CallToAddi-clause-bytes
returns-in-CallToAddi-clause-bytes c =
    let s = c.args.section.now in
    let o = c.args.offset.now - 0 in
    of_kind c.args.section.now _ c.args.offset.now c.in-CallToAddi.is (c.apply-in-CallToAddi.ensures.edited ∙ two s o _ _ _ _ (set_alone 0x60000000 (first s o)) (set_alone 0x38630000 (first s o)))

pub returns-in-CallToAdd-clause-bytes : goal.returns-in-CallToAdd-clause-bytes
returns-in-CallToAdd-clause-bytes c =
    let s = c.args.section.now in
    let o = c.args.offset.now - 0 in
    of_kind c.args.section.now _ c.args.offset.now c.in-CallToAdd.is (c.apply-in-CallToAdd.ensures.edited ∙ two s o _ _ _ _ (set_alone 0x60000000 (first s o)) (set_alone 0x7c636a14 (first s o)))

pub returns-in-CallToAddi4096-clause-bytes : goal.returns-in-CallToAddi4096-clause-bytes
returns-in-CallToAddi4096-clause-bytes c =
    let s = c.args.section.now in
    let o = c.args.offset.now - 0 in
    of_kind c.args.section.now _ c.args.offset.now c.in-CallToAddi4096.is (c.apply-in-CallToAddi4096.ensures.edited ∙ two s o _ _ _ _ (set_alone 0x60000000 (first s o)) (set_alone 0x38631000 (first s o)))
