-- The text that stands on pages.
use Rattle.std.specs.Prelude.{◌≡◌, ℕ, List, ◌++◌, flat_map, length, vec_items, Vec}
use Rattle.std.specs.declared.alloc.Global.{Global}
use Rattle.sc_report.specs.declared.pages.Pages.{Pages}

-- the text of pages, one after the other
abbrev pub pages_text : List (Vec ℕ Global) → List ℕ
pages_text pages = flat_map vec_items pages

-- the text that was put on pages so far
abbrev pub text_so_far : Pages → List ℕ
text_so_far pages = pages_text pages.full.items ++ pages.last.items

-- there are as many bytes afterwards as there were before
abbrev pub IsAsLong : List ℕ → List ℕ → Type 0
IsAsLong old new = length new ≡ length old
