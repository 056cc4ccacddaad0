-- The steps of a chain that goes by labels.
use Rattle.std.proofs.Common.{◌≡◌, inl, inr, ap, sym, subst, ◌∙◌, ℕ, ◌≤◌, List, [], ◌∷◌, ◌++◌, Some, Contains, arith}
use Rattle.std.proofs.lemmas.Bool.{cases_eq}
use Rattle.std.proofs.lemmas.Option.{same_Some}
use Rattle.sc_papers.specs.Market.{Market}
use Rattle.sc_papers.specs.WellFormed.{WellFormed}
use Rattle.sc_papers.specs.Key.{key_of}
use Rattle.sc_papers.specs.Log.{next_choice}
use Rattle.sc_papers.specs.Chain.{PutsOut}
use Rattle.sc_papers.specs.declared.rejection.Rejection.{Rejection}
use Rattle.sc_papers.proofs.Chain.{chain-puts-out, put-out-valid}
use Rattle.sc_papers.proofs.Rejections.{next-same}
use Rattle.sc_ledgers.specs.Ledger.{HasAsked, IsAsking, IsNoted}
use Rattle.sc_ledgers.specs.declared.ledger.Label.{Label}
use Rattle.sc_ledgers.specs.Known.{known, IsByKey}
use Rattle.sc_ledgers.proofs.Held.{Given}
use Rattle.sc_ledgers.proofs.Knowing.{known-ascending, known-label, label-known}
use Rattle.sc_ledgers.proofs.Others.{others-stay}
use Rattle.sc_ledgers.proofs.Staying.{asked-push}

-- the one in hand is refused
pub refused-step : (m : Market) → WellFormed m → (log : List Rejection) (k : ℕ) (labels : ℕ → List Label) (e : Rejection) → IsAsking m log e.student k labels → PutsOut m log e.student e.school e.student → IsAsking m (log ++ e ∷ []) e.student k labels
refused-step m well log k labels e asking puts = record {
  chain = chain-puts-out m well log e.student e asking.chain puts;
  stays = others-stay m well log e.student e puts asking.stays;
  asked = λ s label here low. asked-push m log e label.key.student s (put-out-valid m well log e.student e puts) (asking.asked s label here low);
  standing = λ j s next other. asking.standing j s (sym (next-same m log e j (λ same. other (sym same))) ∙ next) other;
}

-- another one is put out
pub seated-step : (m : Market) → WellFormed m → (log : List Rejection) (hand k : ℕ) (labels noted : ℕ → List Label) (e : Rejection) → IsAsking m log hand k labels → PutsOut m log hand e.school e.student → (hand ≡ e.student → ⊥) → IsNoted (key_of m hand e.school) k e.school labels noted → IsAsking m (log ++ e ∷ []) e.student k noted
unfolding key_of
seated-step m well log hand k labels noted e asking puts other notes = record {
  chain = chain-puts-out m well log hand e asking.chain puts;
  stays = others-stay m well log hand e puts asking.stays;
  asked = λ s label here low. elim (notes.only s label here) [
    | inl before ↦ asked-push m log e label.key.student s (put-out-valid m well log hand e puts) (asking.asked s label before low)
    | inr (school, is) ↦
        subst (λ l. HasAsked m (log ++ e ∷ []) l.key.student s) (sym is)
        (inl (next-same m log e hand (λ same. other (sym same)) ∙ puts.proposes ∙ ap Some (sym school)))
  ];
  standing = λ j s next apart. elim (cases_eq j hand) [
    | inl same ↦
        let school : e.school ≡ s = same_Some e.school s (sym puts.proposes ∙ sym (next-same m log e hand (λ is. other (sym is))) ∙ ap (next_choice m (log ++ e ∷ [])) (sym same) ∙ next) in (
          k,
          omega arith,
          subst (λ t. Contains (noted t) (record { key = key_of m j t; turn = k })) school
              (subst (λ i. Contains (noted e.school) (record { key = key_of m i e.school; turn = k })) (sym same) notes.there),
        )
    | inr others ↦
        let found = asking.standing j s (sym (next-same m log e j (λ same. apart (sym same))) ∙ next) others in
        (found.0, found.1, notes.kept s (record { key = key_of m j s; turn = found.0 }) found.2 (inl (λ same. others (ap (λ key. key.student) same))))
  ];
}

-- what the labels of a school tell, where the one in hand asks it
pub asks-given : (m : Market) → WellFormed m → (log : List Rejection) (hand k s : ℕ) (labels : ℕ → List Label) → IsAsking m log hand k labels → IsByKey (labels s) → ((label : Label) → Contains (labels s) label → label.turn ≤ k → label.key ≡ key_of m label.key.student s) → ((label : Label) → Contains (labels s) label → label.turn ≤ k → label.key.student ≡ hand → ⊥) → Given m log hand s (known k (labels s))
asks-given m well log hand k s labels asking sorted own apart = record {
  well = well;
  chain = asking.chain;
  stays = asking.stays;
  up = known-ascending k (labels s) sorted;
  tells = record {
    own = λ key here.
        let found = known-label k (labels s) key here in
        sym found.2 ∙ own found.0 found.1 found.3 ∙ ap (λ x. key_of m x.student s) found.2;
    asked = λ key here.
        let found = known-label k (labels s) key here in
        subst (λ x. HasAsked m log x.student s) found.2 (asking.asked s found.0 found.1 found.3);
    apart = λ key here same.
        let found = known-label k (labels s) key here in
        apart found.0 found.1 found.3 (ap (λ x. x.student) found.2 ∙ same);
    standing = λ j next other.
        let found = asking.standing j s next other in
        label-known k (labels s) (record { key = key_of m j s; turn = found.0 }) found.2 found.1;
  };
}
