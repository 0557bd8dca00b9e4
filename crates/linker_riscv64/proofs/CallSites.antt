-- A call's site, and how far its target stands from it once the deleted bytes are gone.
use Rattle.linker_riscv64.proofs.Imports.{FitsSigned, IsSiteKept, LinkRegister, List, OfAuipc, OfJalr, ap, arith, call_len, field, link_register, mod_below, of_z, output_distance, pos, rank, rank-le, rank-mono, rank_all_kept, to_z, to_z-of_z, w64, word_at, ℕ, ℤ, ◌+◌, ◌-ℤ◌, ◌/◌, ◌<◌, ◌^◌, ◌∙◌, ◌≡◌, ◌≤◌}

-- the difference of the output offsets that the code has taken
pub distance_is : (ds : List (ℕ × ℕ)) (site target from to len : ℕ) (d : ℤ) → FitsSigned w64 d
    → (from < 2 ^ 63 → to < 2 ^ 63 → d ≡ pos to -ℤ pos from)
    → site + 4 ≤ len → target ≤ len → len < 2 ^ 63
    → from ≡ rank ds site → to ≡ rank ds target → to_z w64 (of_z w64 d) ≡ output_distance ds site target
distance_is ds site target from to len d wide taken room low short is_from is_to =
    to_z-of_z w64 d wide
    ∙ taken (omega (arith, rank-le ds site)) (omega (arith, rank-le ds target))
    ∙ ap (λ n. pos n -ℤ pos from) is_to
    ∙ ap (λ n. pos (rank ds target) -ℤ pos n) is_from

pub four_of : (link : LinkRegister) → 4 ≤ call_len link
four_of OfAuipc = omega arith
four_of OfJalr = omega arith

destination_small : (word : ℕ) → field word 7 12 < 32
destination_small word = mod_below (word / 2 ^ 7) (2 ^ 5) (omega arith)

pub register_small : (link : LinkRegister) (s : List ℕ) (site : ℕ) → link_register link s site < 32
register_small OfAuipc s site = destination_small (word_at s site)
register_small OfJalr s site = destination_small (word_at s (site + 4))

-- the four kept bytes at a site lie in what is packed
pub site_fits : (ds : List (ℕ × ℕ)) (site len : ℕ) → IsSiteKept ds site → site + 4 ≤ len → (rank ds (site + 4) ≡ rank ds site + 4) × (rank ds site + 4 ≤ rank ds len)
site_fits ds site len kept room =
    let four = rank_all_kept ds site 4 kept in
    (four, omega (arith, four, rank-mono ds (site + 4) len room))
