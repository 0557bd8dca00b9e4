use Rattle.linker_utils.proofs.Imports.{List, and_mask, ap, arith, bit_and, bit_or, drop, from_le_bytes, nop, or_zero_r, rd_of, refl, take, to_le_bytes, w32, w64, ℕ, ◌*◌, ◌++◌, ◌+◌, ◌-◌, ◌^◌, ◌∙◌, ◌≡◌}
use Rattle.linker_utils.proofs.RewriteRows.{kept_and_set, one_word, set_alone}
use Rattle.linker_utils.proofs.aarch64.rewrites.RewriteKind.apply.Goals as goal

cleared : (mask : ℕ) (s : List ℕ) (o : ℕ) → let kept = bit_and (from_le_bytes w32 (take 4 (drop o s))) mask in
    take o s ++ to_le_bytes w32 (bit_or kept 0) ++ drop (o + 4) s ≡ take o s ++ to_le_bytes w32 kept ++ drop (o + 4) s
cleared mask s o =
    one_word s o _ _ (or_zero_r (bit_and (from_le_bytes w32 (take 4 (drop o s))) mask))

pub returns-in-AdrpToAdr-clause-bytes : goal.returns-in-AdrpToAdr-clause-bytes
returns-in-AdrpToAdr-clause-bytes c =
    rw c.in-AdrpToAdr.is (c.apply-in-AdrpToAdr.ensures.edited ∙ cleared 0x7fffffff c.args.section_bytes.now (c.args.offset_in_section.now - 0))

pub returns-in-AddToAdr-clause-bytes : goal.returns-in-AddToAdr-clause-bytes
returns-in-AddToAdr-clause-bytes c =
    rw c.in-AddToAdr.is (c.apply-in-AddToAdr.ensures.edited ∙ cleared 0x76ffffff c.args.section_bytes.now (c.args.offset_in_section.now - 0))

pub returns-in-LdrToAdr-clause-bytes : goal.returns-in-LdrToAdr-clause-bytes
returns-in-LdrToAdr-clause-bytes c =
    rw c.in-LdrToAdr.is (c.apply-in-LdrToAdr.ensures.edited ∙ cleared 0x76ffffff c.args.section_bytes.now (c.args.offset_in_section.now - 0))

pair : (word : ℕ) → bit_or (bit_and word 0) 0xd503201f + bit_or (bit_and word 0x1f) 0x10000000 * 2 ^ 32 ≡ nop + (0x10000000 + rd_of word) * 2 ^ 32
pair word =
    let first : bit_or (bit_and word 0) 0xd503201f ≡ nop = set_alone 0xd503201f word in
    let second = kept_and_set 0x1f 0x10000000 word refl in
    omega (arith, first, second, and_mask word 5)

pub returns-in-AdrpAddToNopAdr-clause-bytes : goal.returns-in-AdrpAddToNopAdr-clause-bytes
returns-in-AdrpAddToNopAdr-clause-bytes c =
    let s = c.args.section_bytes.now in
    let o = c.args.offset_in_section.now - 4 in
    rw c.in-AdrpAddToNopAdr.is
    (c.apply-in-AdrpAddToNopAdr.ensures.edited
    ∙ ap (λ n. take o s ++ to_le_bytes w64 n ++ drop (o + 8) s) (pair (from_le_bytes w32 (take 8 (drop o s)))))
