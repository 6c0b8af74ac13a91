-- What a close makes of a sketch: its calls and its bytes. Assumes nothing.
use Prim.Native.Nat.{◌+◌}
use mathlib.Core.Path.{◌≡◌, ◌∙◌}
use mathlib.Core.List.{[], ◌∷◌, ◌++◌, append-nil, append_assoc}
use lib.ListN.{length, length-append}
use Rattle.code.specs.Tree.{Block, IfElse, While}
use Rattle.code.specs.Writer.{bytes_of_code, bytes_of_codes}
use Rattle.builder.specs.Calls.{close}
use Rattle.built.specs.Sketch.{Open, Sketch, ◌▷◌, bytes_of_open, bytes_so_far, calls_of_code, calls_of_codes, calls_of_open, calls_so_far}
use Rattle.built.proofs.Parts.{inside, size}
use Rattle.built.proofs.Steps.{closed, add_bytes, add_calls}
use Rattle.built.proofs.Sound.{Ready, ready_block, ready_true, ready_while, ready_false}
use Rattle.built.proofs.Filling.{filled, filled_length}

-- the length of a closed part is filled in
pub closed_bytes : (s : Sketch) {o : Open} → Ready o → bytes_so_far (closed s o) ≡ bytes_so_far s ++ filled (length (bytes_of_codes (inside o))) o
unfolding closed bytes_so_far bytes_of_open bytes_of_code bytes_of_codes filled
closed_bytes s (ready_block {cs}) = add_bytes s (Block (size s) cs)
closed_bytes s (ready_true {c} {a}) = simp append-nil
closed_bytes s (ready_while {c} {a}) = add_bytes s (While (size s) (size s + 5) c a) ∙ simp append-nil
closed_bytes s (ready_false {c} {a} {b}) = add_bytes s (IfElse (size s) (size s + 9) c a b) ∙ simp append-nil

pub closed_calls : (s : Sketch) {o : Open} → Ready o → calls_so_far (closed s o) ≡ calls_so_far (s ▷ o) ++ close ∷ []
unfolding closed calls_so_far calls_of_open calls_of_code calls_of_codes
closed_calls s (ready_block {cs}) = add_calls s (Block (size s) cs) ∙ simp append_assoc
closed_calls s (ready_true {c} {a}) = simp (append-nil, append_assoc)
closed_calls s (ready_while {c} {a}) = add_calls s (While (size s) (size s + 5) c a) ∙ simp (append-nil, append_assoc)
closed_calls s (ready_false {c} {a} {b}) =
    add_calls s (IfElse (size s) (size s + 9) c a b)
    ∙ simp (append-nil, append_assoc) (rw (append_assoc (calls_of_code a) (close ∷ calls_of_code b) (close ∷ [])))

pub closed_size : (s : Sketch) {o : Open} → Ready o → size (closed s o) ≡ size (s ▷ o)
unfolding bytes_so_far
closed_size s {o} r = rw (closed_bytes s r) (simp (length-append, filled_length))
