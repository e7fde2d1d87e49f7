-- What a drill comes to, and how it is printed.
use Rattle.std.specs.Prelude.{ℕ, Bool, not, List, [], ◌++◌, fold, length, filter, codes, decimal}
use Rattle.hex.specs.Hex.{encode_lower}
use Rattle.sha2.specs.Sha256.{sha256}
use Rattle.alto_book.specs.Book.{Book}
use Rattle.alto_drill.specs.declared.drilled.Drilled.{Drilled}
use Rattle.alto_drill.specs.Edges.{drill_resources}
use Rattle.alto_drill.specs.Imports.{drill_book}
use Rattle.alto_drill.specs.Trials.{TrialData, with_resource}

-- the trials of the edges of all resources
unfoldable pub trials_of : Book → TrialData
trials_of book = fold (λ before of. with_resource book of before) (record { bodies = []; leads = [] }) drill_resources

-- how many edges don't lead on
unfoldable pub failures_in : List Bool → ℕ
failures_in leads = length (filter (λ leads. not leads) leads)

-- what a drill of a number and so many batches comes to
unfoldable pub drilled_by : ℕ → ℕ → Drilled
drilled_by number batches =
    let trials = trials_of (drill_book number batches) in
    record {
      batches = batches;
      edges = length trials.leads;
      failed = failures_in trials.leads;
      map = sha256 trials.bodies;
    }

-- its two lines
abbrev pub text_of : Drilled → List ℕ
text_of drilled =
    codes "batches " ++ (decimal drilled.batches ++ (codes " edges " ++ (decimal drilled.edges
    ++ (codes " failed " ++ (decimal drilled.failed ++ (codes "\nmap " ++ (encode_lower drilled.map ++ codes "\n")))))))
