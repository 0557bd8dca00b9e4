use Rattle.linker_utils.proofs.RewriteRows.{at_any, at_multiple, at_mark}
use Rattle.linker_utils.proofs.Ppc64Rows.{over_base_tests, indexed_tests, indexed_word_tests, indexed_any_tests}
use Rattle.linker_utils.proofs.ppc64.rewrites.RewriteKind.matches.Goals as goal

pub returns-in-BaseToToc-clause-exactly : goal.returns-in-BaseToToc-clause-exactly
returns-in-BaseToToc-clause-exactly c =
    let tests = at_any _ _ over_base_tests c.args.section.now c.args.offset in
    let is_for = c.is_for-in-BaseToToc.ensures in
    rw c.in-BaseToToc.is (λ is. tests.0 (is_for.0 is), λ there. is_for.1 (tests.1 there))

pub returns-in-IndexedToD-clause-exactly : goal.returns-in-IndexedToD-clause-exactly
returns-in-IndexedToD-clause-exactly c =
    let tests = at_multiple _ _ indexed_tests c.args.section.now c.args.offset in
    let is_for = c.is_for-in-IndexedToD.ensures in
    rw c.in-IndexedToD.is (λ is. tests.0 (is_for.0 is), λ there. is_for.1 (tests.1 there))

pub returns-in-IndexedToDs-clause-exactly : goal.returns-in-IndexedToDs-clause-exactly
returns-in-IndexedToDs-clause-exactly c =
    let tests = at_multiple _ _ indexed_word_tests c.args.section.now c.args.offset in
    let is_for = c.is_for-in-IndexedToDs.ensures in
    rw c.in-IndexedToDs.is (λ is. tests.0 (is_for.0 is), λ there. is_for.1 (tests.1 there))

pub returns-in-BaseToThread-clause-exactly : goal.returns-in-BaseToThread-clause-exactly
returns-in-BaseToThread-clause-exactly c =
    let tests = at_any _ _ over_base_tests c.args.section.now c.args.offset in
    let is_for = c.is_for-in-BaseToThread.ensures in
    rw c.in-BaseToThread.is (λ is. tests.0 (is_for.0 is), λ there. is_for.1 (tests.1 there))

pub returns-in-IndexedToDirect-clause-exactly : goal.returns-in-IndexedToDirect-clause-exactly
returns-in-IndexedToDirect-clause-exactly c =
    let tests = at_mark _ _ indexed_any_tests c.args.section.now c.args.offset in
    let is_for = c.is_for-in-IndexedToDirect.ensures in
    rw c.in-IndexedToDirect.is (λ is. tests.0 (is_for.0 is), λ there. is_for.1 (tests.1 there))
