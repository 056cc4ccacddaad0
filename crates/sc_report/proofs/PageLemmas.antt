-- Texts that grow on pages.
use Rattle.std.proofs.Common.{◌≡◌, refl, sym, ◌∙◌, ap, subst, ℕ, ◌+◌, ◌<◌, List, [], ◌++◌, Option, length, get_or, min, take, drop, append_assoc, take-append-drop, arith}
use Rattle.std.specs.Io.KnownBytes.{Appends}
use Rattle.std.specs.Prelude.{vec_items, Vec}
use Rattle.std.specs.declared.alloc.Global.{Global}
use Rattle.std.proofs.KnownBytes.{Appends-trans}
use Rattle.std.proofs.Math.Seq.{take-append-add}
use Rattle.std.proofs.lemmas.Grind.{flat_map-append}
use Rattle.std.proofs.lemmas.List.{take-append-le, take_min}
use Rattle.sc_report.specs.Pages.{pages_text}
use Rattle.sc_report.specs.Whole.{AppendsPrefix}
use Rattle.sc_report.proofs.LineLemmas.{lines-more}

-- a text on pages gains what its last page gains
pub page-grew : (full : List (Vec ℕ Global)) (last new line : List ℕ) → new ≡ last ++ line → pages_text full ++ new ≡ (pages_text full ++ last) ++ line
page-grew full last new line grew = ap (λ page. pages_text full ++ page) grew ∙ sym (append_assoc (pages_text full) last line)

-- a text on pages and in a draft gains what the draft gains, whether the draft is then put on a page or not
pub draft-grew : (pages draft line longer text : List ℕ) → longer ≡ draft ++ line → text ≡ pages ++ longer → text ≡ (pages ++ draft) ++ line
draft-grew pages draft line longer text grew is = is ∙ ap (λ more. pages ++ more) grew ∙ sym (append_assoc pages draft line)

-- the pages up to one more
pages-more : (pages : List (Vec ℕ Global)) (k : ℕ) (page : Vec ℕ Global) → k < length pages → page ≡ get_or pages k page
    → pages_text (take k pages) ++ page.items ≡ pages_text (take (k + 1) pages)
pages-more pages k page low is = lines-more vec_items pages k page [] (pages_text (take k pages)) (pages_text (take k pages) ++ page.items) refl refl low is

-- the pages before one, the page itself and those after it
pages-split : (pages : List (Vec ℕ Global)) (k : ℕ) (page : Vec ℕ Global) → k < length pages → page ≡ get_or pages k page
    → pages_text pages ≡ pages_text (take k pages) ++ (page.items ++ pages_text (drop (k + 1) pages))
pages-split pages k page low is =
    let rest = pages_text (drop (k + 1) pages) in
    ap pages_text (sym (take-append-drop (k + 1) pages)) ∙ flat_map-append vec_items (take (k + 1) pages) (drop (k + 1) pages)
    ∙ ap (λ front. front ++ rest) (sym (pages-more pages k page low is)) ∙ append_assoc (pages_text (take k pages)) page.items rest

-- a prefix of a page, after the pages before it
page-prefix : (front page rest : List ℕ) (count : ℕ) → front ++ take count page ≡ take (length front + min count (length page)) (front ++ (page ++ rest))
page-prefix front page rest count =
    sym (take-append-add front (page ++ rest) (min count (length page))
    ∙ ap (λ more. front ++ more) (take-append-le (min count (length page)) page rest (omega arith) ∙ take_min count page))

-- a writer that has the pages before one, and was given that one, has the pages up to it
pub Appends-page : (a b c : Option (List ℕ)) (pages : List (Vec ℕ Global)) (k : ℕ) (page : Vec ℕ Global) (text : List ℕ) → text ≡ page.items
    → Appends a b (pages_text (take k pages)) → Appends b c text → k < length pages → page ≡ get_or pages k page → Appends a c (pages_text (take (k + 1) pages))
Appends-page a b c pages k page text text_is had gained low is =
    subst (Appends a c) (ap (λ more. pages_text (take k pages) ++ more) text_is ∙ pages-more pages k page low is)
    (Appends-trans a b c (pages_text (take k pages)) text had gained)

-- a writer that has the pages before one, and was given a prefix of that one, has a prefix of them all
pub AppendsPrefix-page : (a b c : Option (List ℕ)) (pages : List (Vec ℕ Global)) (k : ℕ) (page : Vec ℕ Global) (text : List ℕ) → text ≡ page.items
    → Appends a b (pages_text (take k pages)) → AppendsPrefix b c text → k < length pages → page ≡ get_or pages k page → AppendsPrefix a c (pages_text pages)
AppendsPrefix-page a b c pages k page text text_is had (count, gained) low is =
    let front = pages_text (take k pages) in
    let taken = length front + min count (length page.items) in
    let prefix = page-prefix front page.items (pages_text (drop (k + 1) pages)) count ∙ ap (take taken) (sym (pages-split pages k page low is)) in
    (taken, subst (Appends a c) (ap (λ bytes. front ++ take count bytes) text_is ∙ prefix) (Appends-trans a b c front (take count text) had gained))
