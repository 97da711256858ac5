-- A text has one node's document, and this says one thing.
use Rattle.std.proofs.Common.{◌≡◌, ◌≢◌, ◌∙◌, ◌==◌, ℕ, List, ◌∷◌, ◌++◌, length, Bool, true, false, Some}
use Rattle.std.proofs.Common.{None, Ok, Err, refl, sym, ap, subst}
use Rattle.std.specs.List.{join_with_byte}
use Rattle.std.proofs.Math.ListN.{take}
use Rattle.std.proofs.Math.Seq.{take-append_seam}
use Rattle.std.proofs.lemmas.List.Splits.{join_with_byte-slice_split}
use Rattle.lines.specs.TextLines.{parts}
use Rattle.toml.specs.Data.{Members}
use Rattle.task_sheet.specs.ReadsSet.{IsDocument}
use Rattle.teams.specs.Gathering.{HasNoNode, IsNodeHead, IsNodePart}
use Rattle.teams.specs.NodeDocument.{NodeData, ReadsNodeDocument, node_fault, node_of}
use Rattle.teams.specs.ReadsText.{is_gathered}
use Rattle.teams.specs.Strictness.{IsStrict, SaysStrict}
use Rattle.teams.specs.declared.node.NodeFault.{NodeFault}
use Rattle.teams.specs.declared.node.NodeFault.TheVariants as fault
use Rattle.teams.proofs.TeamLaws.{node_count}

-- ---- one document
one_tree : (text : List ℕ) (first second : Members) → IsDocument text first
    → IsDocument text second → first ≡ second
one_tree text first second is also =
    let same : Some first ≡ Some second = sym is.parsed ∙ also.parsed in
    cc

one_rest : (rest other : List ℕ) → parts rest ≡ parts other → rest ≡ other
one_rest rest other same = sym (join_with_byte-slice_split 10 rest)
    ∙ ap (join_with_byte 10) same ∙ join_with_byte-slice_split 10 other

one_front : (xs ys us vs : List ℕ) → length xs ≡ length us → xs ++ ys ≡ us ++ vs → xs ≡ us
one_front xs ys us vs long same = sym (take-append_seam xs ys)
    ∙ ap (λ n. take n (xs ++ ys)) long ∙ ap (take (length us)) same ∙ take-append_seam us vs

pub one_part : (text first second after behind : List ℕ) → IsNodePart text first after
    → IsNodePart text second behind → first ≡ second
one_part text first second after behind (line, rest, split, head, is) (front, other, again, heads, also) =
    let lines : line ≡ front = cc in
    let tails : parts rest ≡ parts other = cc in
    let rests : rest ≡ other = one_rest rest other tails in
    let long : length first ≡ length second = node_count line (length first) (length second) head
    (subst (λ (l : List ℕ). IsNodeHead l (length second)) (sym lines) heads) in
    one_front first after second behind long (sym is ∙ rests ∙ also)

one_said : (text : List ℕ) (n m : NodeData) → ReadsNodeDocument text (Ok n)
    → ReadsNodeDocument text (Ok m) → n ≡ m
one_said text n m (tree, is, none, says) (other, also, never, said) =
    says ∙ ap node_of (one_tree text tree other is also) ∙ sym said

-- ---- what it says
pub alone_lenient : (text : List ℕ) → is_gathered text ≡ false → IsStrict text → ⊥
alone_lenient text alone (_, _, _, several, _, _, _) =
    let never : true ≡ false = sym several ∙ alone in
    absurd (cc)

pub no_node_lenient : (text : List ℕ) → HasNoNode text → IsStrict text → ⊥
no_node_lenient text none (document, after, _, _, part, _, _) = none document after part

pub faulty_lenient : (text document after : List ℕ) (e : NodeFault) → IsNodePart text document after
    → ReadsNodeDocument document (Err e) → e ≢ fault.OutOfMemory → IsStrict text → ⊥
faulty_lenient text document after e part why known (other, behind, n, _, also, reads, _) =
    let same = one_part text other document behind after also part in
    by e known why (subst (λ (d : List ℕ). ReadsNodeDocument d (Ok n)) same reads)
  where
    by : (f : NodeFault) → f ≢ fault.OutOfMemory → ReadsNodeDocument document (Err f)
        → ReadsNodeDocument document (Ok n) → ⊥
    by fault.OutOfMemory some why reads = some refl
    by fault.Syntax some why reads = why reads.0 reads.1
    by f some why reads =
        let trees = one_tree document why.0 reads.0 why.1 reads.1 in
        let never : Some f ≡ None = sym why.2 ∙ ap node_fault trees ∙ reads.2 in
        absurd (cc)

pub says_so : (text document after : List ℕ) (n : NodeData) → is_gathered text ≡ true
    → IsNodePart text document after → ReadsNodeDocument document (Ok n) → SaysStrict text n.is_strict
says_so text document after n several part reads = by n.is_strict refl
  where
    by : (s : Bool) → n.is_strict ≡ s → SaysStrict text s
    by true is = (document, after, n, several, part, reads, is)
    by false is = λ strict.
        let same = one_part text strict.0 document strict.1 after strict.4 part in
        let one = one_said document strict.2 n
        (subst (λ (d : List ℕ). ReadsNodeDocument d (Ok strict.2)) same strict.5) reads in
        let never : true ≡ false = sym strict.6 ∙ ap (λ (m : NodeData). m.is_strict) one ∙ is in
        absurd (cc)
