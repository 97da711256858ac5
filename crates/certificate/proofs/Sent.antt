-- What was sent: a level after a level.
use Rattle.std.proofs.Common.{◌≡◌, ℕ, suc, ◌+◌, ◌<◌, List, [], ◌∷◌, ◌++◌, length, take, get_or, sym}
use Rattle.std.proofs.Common.{ap, ◌∙◌, subst, append_assoc, arith, zero-add, Option, Ok}
use Rattle.std.specs.Prelude.{codes}
use Rattle.std.specs.Fmt.{decimal}
use Rattle.std.proofs.lemmas.List.{take_more, append-nil, length-take-le}
use Rattle.certificate.specs.Body.{CertLevelData}
use Rattle.certificate.specs.Spelling.{fail_lines, level_spelling, level_spellings}
use Rattle.streams.specs.Puts.{Puts}
use Rattle.streams.specs.declared.outlet.Outlet.{Outlet}
use Rattle.streams.proofs.Puts.{puts_both}
use Rattle.certificate.proofs.LevelLaws.{level_text}

regroup : (a b c d : List ℕ) → a ++ (b ++ (c ++ d)) ≡ (a ++ (b ++ c)) ++ d
regroup a b c d = simp append_assoc

lines_append : (k : ℕ) (xs : List CertLevelData) (l : CertLevelData)
    → level_spellings k (xs ++ l ∷ []) ≡ level_spellings k xs ++ level_text (length xs + k) l
lines_append k [] l = rw zero-add
    (ap (λ (y : List ℕ). level_spelling k l ++ y) (append-nil (fail_lines (codes "fails") l.fails)))
lines_append k (x ∷ xs) l =
    let same : length xs + (k + 1) ≡ suc (length xs) + k = omega arith in
    let fails : List ℕ = fail_lines (codes "fails") x.fails in
    ap (λ (y : List ℕ). level_spelling k x ++ (fails ++ y)) (lines_append (k + 1) xs l)
    ∙ regroup (level_spelling k x) fails (level_spellings (k + 1) xs) _
    ∙ ap (λ (n : ℕ). level_spellings k (x ∷ xs) ++ level_text n l) same

-- one more level
pub level_sent : {W : Type 0} {contents : W → Option (List ℕ)} {a b c d : Outlet W}
    (ls : List CertLevelData) (n : ℕ) (l : CertLevelData) → n < length ls → l ≡ get_or ls n l
    → Puts contents a b (Ok tt) (level_spellings 1 (take n ls)) → Puts contents b c (Ok tt)
    (level_spelling (n + 1) l) → Puts contents c d (Ok tt) (fail_lines (codes "fails") l.fails)
    → Puts contents a d (Ok tt) (level_spellings 1 (take (n + 1) ls))
level_sent {contents = contents} {a = a} {d = d} ls n l lt e so_far line fails =
    let more : level_spellings 1 (take (n + 1) ls)
    ≡ level_spellings 1 (take n ls) ++ level_text (length (take n ls) + 1) l =
    ap (level_spellings 1) (take_more ls n l lt)
    ∙ ap (λ (x : CertLevelData). level_spellings 1 (take n ls ++ x ∷ [])) (sym e)
    ∙ lines_append 1 (take n ls) l in
    subst (Puts contents a d (Ok tt)) (sym more)
    (rw (length-take-le n ls (omega arith)) (puts_both so_far (puts_both line fails)))

pieces : (word digits name time : List ℕ) → (word ++ digits)
    ++ (32 ∷ (name ++ 32 ∷ time ++ 10 ∷ [])) ≡ word ++ digits ++ 32 ∷ name ++ 32 ∷ time ++ 10 ∷ []
pieces word digits name time = simp append_assoc

pub level_pieces : (k : ℕ) (l : CertLevelData) → (codes "level " ++ decimal k)
    ++ (32 ∷ (l.name ++ 32 ∷ decimal l.time ++ 10 ∷ [])) ≡ level_spelling k l
level_pieces k l = pieces (codes "level ") (decimal k) l.name (decimal l.time)
